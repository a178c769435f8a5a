-- What the drill has in hand after a call, and what that says of the calls so far; and that these are a list of calls, of which the whole
-- campaign's claim speaks.
-- Assumes nothing.
use Rattle.std.specs.Prelude.{Option, Some, None}
use Prim.Native.Nat.{ℕ}
use mathlib.Core.Path.{◌≡◌, refl, sym, ◌∙◌}
use mathlib.Core.Bool.{true}
use mathlib.Core.List.{List, [], ◌∷◌, ◌++◌}
use lib.ListN.{length}
use Rattle.guarantee.specs.Machine.{Asked, next_order}
use Rattle.calls.specs.Calls.{sheet_passes, start_call, start_leaves, asked_call, asked_leaves}
use Rattle.whole_campaign.specs.Calls.{Call, single, leaves}
use Rattle.whole_campaign.specs.Lists.{left_on}
use Rattle.whole_campaign.specs.Whole.{WholeCampaign}
use Rattle.whole_campaign.proofs.Lists.{left-append}
use Rattle.whole_campaign.proofs.Whole.{whole-campaign}
use Rattle.decimal.specs.Decimal.{columns, columns_to, same_bytes}
use Rattle.event_lines.specs.Line.{line_text, is_line, line_of}
use Rattle.drill_lines.specs.Steps.{step_of}
use Rattle.event_lines.specs.declared.Event.{Event}
use Rattle.drill_lines.specs.declared.Step.{Step}
use Rattle.drill_lines.specs.declared.Step.TheVariants.{TakeOrder, ReadReply}
use Rattle.drill_run.specs.Drilled.{heard_of, heard_leaves, HeardAs, Drilled, begun, ordered, heard, Played, DrilledFromStart}

-- the input has ended
no_text : line_of [] ≡ None
unfolding line_of is_line line_text columns columns_to same_bytes
no_text = refl

pub ended : (s st : List ℕ) → HeardAs s st None st
ended s st = ([], rw no_text, rw no_text)

-- ---- one turn

module _ (s : List ℕ) (b₀ : ℕ) (st₀ : List ℕ) (b : ℕ) (st st' : List ℕ) (d : Drilled s b₀ st₀ b st) where
  pub order-taken : (t : Step) (a : ℕ) → t ≡ step_of b → t ≡ TakeOrder → a ≡ asked_call s st next_order → st' ≡ asked_leaves s st next_order
      → Drilled s b₀ st₀ a st'
  order-taken t a e k f g = ordered d (sym e ∙ k) (record { answered = f; leaves = g })

  module _ (h : Option ℕ) (was : HeardAs s st h st') where
    pub reply-heard : (t : Step) (a : ℕ) → t ≡ step_of b → t ≡ ReadReply → h ≡ Some a → Drilled s b₀ st₀ a st'
    reply-heard t a e k n = go (line_of was.0) (sym n ∙ was.1) was.2
      where
        go : (y : Option Event) → Some a ≡ heard_of s st y → st' ≡ heard_leaves s st y → Drilled s b₀ st₀ a st'
        go (Some y) p q = heard y.letter y.booking d (sym e ∙ k) (record { answered = cc; leaves = q })
        go None p q = absurd (cc)

    -- nothing heard, nothing done
    pub silence : h ≡ None → Played s b₀ st₀ st'
    silence n = go (line_of was.0) (sym n ∙ was.1) was.2
      where
        go : (y : Option Event) → None ≡ heard_of s st y → st' ≡ heard_leaves s st y → Played s b₀ st₀ st'
        go (Some y) p q = absurd (cc)
        go None p q = (b, rw q d)

-- begun by start
pub from_start : (s lent : List ℕ) (b₀ : ℕ) (st₀ st : List ℕ) → b₀ ≡ start_call s lent → st₀ ≡ start_leaves s lent → Played s b₀ st₀ st
    → DrilledFromStart s lent st
from_start s lent b₀ st₀ st e f d = rw (← e, ← f) d

-- ---- a list of calls

one_more : (s st₀ st st' : List ℕ) (q : Asked) → (cs : List Call) × (st ≡ left_on s st₀ cs) → st' ≡ asked_leaves s st q
    → (cs : List Call) × (st' ≡ left_on s st₀ cs)
unfolding left_on leaves
one_more s st₀ st st' q (cs, e) f = (cs ++ (single q ∷ []), f ∙ rw e (sym (left-append s st₀ cs (single q ∷ []))))

-- the drill's state is what a list of calls leaves of the one that it began with
pub drilled-calls : (s : List ℕ) (b₀ : ℕ) (st₀ : List ℕ) (b : ℕ) (st : List ℕ) → Drilled s b₀ st₀ b st → (cs : List Call) × (st ≡ left_on s st₀ cs)
unfolding left_on
drilled-calls s b₀ st₀ b st begun = ([], refl)
drilled-calls s b₀ st₀ b st (ordered d k c) = one_more s st₀ _ _ _ (drilled-calls s b₀ st₀ _ _ d) c.leaves
drilled-calls s b₀ st₀ b st (heard letter booking d k c) = one_more s st₀ _ _ _ (drilled-calls s b₀ st₀ _ _ d) c.leaves

-- so with a sheet that passes it is a whole campaign
pub drilled-whole : (s lent st : List ℕ) → sheet_passes s ≡ true → length lent ≡ 65 → DrilledFromStart s lent st
    → (cs : List Call) × (st ≡ left_on s (start_leaves s lent) cs) × WholeCampaign s (start_leaves s lent) cs
drilled-whole s lent st e h (b, d) = let (cs, f) = drilled-calls s _ _ b st d in (cs, f, whole-campaign s e lent h cs)
