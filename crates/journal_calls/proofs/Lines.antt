-- What is known of one line: a line written, and that a line taken leaves a way within its limit.
-- Assumes nothing.
use mathlib.Core.Path.{◌≡◌, sym, ◌∙◌}
use mathlib.Core.Bool.{Bool, true, false}
use mathlib.Core.List.{List}
use Prim.Native.Nat.{ℕ, ◌≤◌, ◌<◌}
use lib.ListN.{length}
use lib.Seq.{sets}
use borrow.Author.Tests.{le-leb, lt-leb}
use Rattle.bounded.proofs.Bools.{by_cond}
use Rattle.network.specs.declared.Network.{Network}
use Rattle.run.specs.Orders.{next}
use Rattle.run.specs.declared.Run.{Run}
use Rattle.run.specs.Replies.{Replied}
use Rattle.guarantee.specs.Answers.{pack, place9}
use Rattle.guarantee.specs.Machine.{reply_to}
use Rattle.event_lines.specs.Line.{line_text, is_order}
use Rattle.std.specs.Prelude.{Option, Some, None}
use Rattle.event_lines.specs.declared.Event.{Event}
use Rattle.event_lines.proofs.LineLaws.{line-length}
use Rattle.lent_state.specs.Due.{order_taken}
use Rattle.lent_state.proofs.Due.{sent}
use Rattle.lent_state.proofs.Limits.{order-few, numbered-few}
use Rattle.journal_calls.specs.Journal.{has_line, journal_line_call, journal_line_leaves}
use Rattle.journal_calls.specs.Restart.{line_taken}

-- ---- a line written

module _ (l b : ℕ) (d : List ℕ) (t : Bool) (e : t ≡ has_line l b) where
  pub no_line : t ≡ false → (x : ℕ) → x ≡ pack 0 9 (place9 b) → (x ≡ journal_line_call l b (length d)) × (d ≡ journal_line_leaves l b d)
  unfolding journal_line_call journal_line_leaves
  no_line n x p = let f : has_line l b ≡ false = sym e ∙ n in (rw f p, rw f)

  module _ (n : t ≡ true) where
    has : has_line l b ≡ true
    has = sym e ∙ n

    pub no_room : length d < 6 → (x : ℕ) → x ≡ pack 0 10 0 → (x ≡ journal_line_call l b (length d)) × (d ≡ journal_line_leaves l b d)
    unfolding journal_line_call journal_line_leaves
    no_room h x p = (rw (has, lt-leb 6 (length d) h) p, rw (has, lt-leb 6 (length d) h))

    pub written : 6 ≤ length d → (m : ℕ) → m ≡ length (line_text l b) → (x : ℕ) → x ≡ pack 6 0 m → (f : List ℕ) → f ≡ sets d 0 (line_text l b)
        → (x ≡ journal_line_call l b (length d)) × (f ≡ journal_line_leaves l b d)
    unfolding journal_line_call journal_line_leaves
    written h m k x p f q = (rw (has, le-leb 6 (length d) h) (rw (k ∙ line-length l b) at p), rw (has, le-leb 6 (length d) h) q)

-- ---- a line taken

-- it leaves a way within the limit
module _ (g : Network) (few : g.a ≤ 16) (r : Run) (h : r.way ≤ 16) where
  pub line-few : (line : Option Event) → (line_taken g r line).run.way ≤ 16
  unfolding line_taken order_taken
  line-few (Some v) = by_cond (λ (t : Replied). t.run.way ≤ 16) {t = is_order v.letter} {a = order_taken (next g r) v.letter v.booking} {b = reply_to g r v.letter v.booking} (λ e. order-few g few r h (sent g r)) (λ e. numbered-few g few r h v.letter v.booking)
  line-few None = h
