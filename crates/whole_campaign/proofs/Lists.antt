-- Two lists of calls as one: the second goes on from the state that the first left. And a list without blocks stands for its own calls.
-- Assumes nothing.
use mathlib.Core.Path.{◌≡◌, refl, ap}
use mathlib.Core.List.{List, [], ◌∷◌, ◌++◌}
use Prim.Native.Nat.{ℕ}
use Rattle.guarantee.specs.Machine.{Asked}
use Rattle.calls.specs.Calls.{asked_call, asked_leaves}
use Rattle.whole_campaign.specs.Calls.{Call, singles, gives, leaves}
use Rattle.whole_campaign.specs.Lists.{answers_on, states_on, left_on}
use Rattle.whole_campaign.specs.Singly.{calls_in, answers_in, singly, singly_told, singly_on, told_on}

module _ (s : List ℕ) where
  pub answers-append : (bs : List ℕ) (cs ds : List Call) → answers_on s bs (cs ++ ds) ≡ answers_on s bs cs ++ answers_on s (left_on s bs cs) ds
  unfolding answers_on left_on
  answers-append bs [] ds = refl
  answers-append bs (c ∷ cs) ds = ap (λ (xs : List ℕ). gives s bs c ∷ xs) (answers-append (leaves s bs c) cs ds)

  pub states-append : (bs : List ℕ) (cs ds : List Call) → states_on s bs (cs ++ ds) ≡ states_on s bs cs ++ states_on s (left_on s bs cs) ds
  unfolding states_on left_on
  states-append bs [] ds = refl
  states-append bs (c ∷ cs) ds = ap (λ (xs : List (List ℕ)). leaves s bs c ∷ xs) (states-append (leaves s bs c) cs ds)

  pub left-append : (bs : List ℕ) (cs ds : List Call) → left_on s bs (cs ++ ds) ≡ left_on s (left_on s bs cs) ds
  unfolding left_on
  left-append bs [] ds = refl
  left-append bs (c ∷ cs) ds = left-append (leaves s bs c) cs ds

  pub singles-calls : (bs : List ℕ) (qs : List Asked) → singly_on s bs (singles qs) ≡ qs
  unfolding singly_on singly calls_in answers_on gives leaves
  singles-calls bs [] = refl
  singles-calls bs (q ∷ qs) = ap (λ (ps : List Asked). q ∷ ps) (singles-calls (asked_leaves s bs q) qs)

  pub singles-told : (bs : List ℕ) (qs : List Asked) → told_on s bs (singles qs) ≡ answers_on s bs (singles qs)
  unfolding told_on singly_told answers_in answers_on gives leaves
  singles-told bs [] = refl
  singles-told bs (q ∷ qs) = ap (λ (xs : List ℕ). asked_call s bs q ∷ xs) (singles-told (asked_leaves s bs q) qs)
