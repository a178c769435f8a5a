-- Lists of calls: each call gets the sheet, and the state as the call before left it. Each call reads the sheet anew, as the calls for C do.
-- Assumes nothing.
use Rattle.std.specs.Prelude.{List, [], ◌∷◌, ℕ}
use Rattle.network.specs.declared.Network.{Network}
use Rattle.run.specs.declared.Run.{Run}
use Rattle.whole_campaign.specs.Calls.{Call, gives, leaves, gives_by, leaves_by}

-- the answers to a list of calls
unfoldable pub answers_on : List ℕ → List ℕ → List Call → List ℕ
answers_on s bs [] = []
answers_on s bs (c ∷ cs) = gives s bs c ∷ answers_on s (leaves s bs c) cs

-- the state's bytes after each call
unfoldable pub states_on : List ℕ → List ℕ → List Call → List (List ℕ)
states_on s bs [] = []
states_on s bs (c ∷ cs) = leaves s bs c ∷ states_on s (leaves s bs c) cs

-- and after the last
unfoldable pub left_on : List ℕ → List ℕ → List Call → List ℕ
left_on s bs [] = bs
left_on s bs (c ∷ cs) = left_on s (leaves s bs c) cs

-- ---- the same of the plain machine, which is fed with the network and the calls alone

unfoldable pub answers_by : Network → Run → List Call → List ℕ
answers_by g r [] = []
answers_by g r (c ∷ cs) = gives_by g r c ∷ answers_by g (leaves_by g r c) cs

unfoldable pub states_by : Network → Run → List Call → List Run
states_by g r [] = []
states_by g r (c ∷ cs) = leaves_by g r c ∷ states_by g (leaves_by g r c) cs
