-- The listing of a sound state tells its story: a way that is not live has a true reason, and so each line is true; the lines are those of the ways
-- before the current one.
-- Assumes nothing.
use Prim.Native.Nat.{ℕ, zero, suc, ◌*◌, ◌^◌, ◌≤◌, ◌<◌}
use mathlib.Core.Path.{◌≡◌, refl}
use mathlib.Core.Logic.{◌⊎◌, inl, inr}
use mathlib.Core.Bool.{true, false, not}
use mathlib.Core.List.{List, [], append-nil}
use native.Mathlib.Omega.{arith}
use lib.Bits.{bit_and}
use lib.ListN.{length}
use Rattle.bounded.proofs.Bools.{which, clash, by_cond, split?}
use Rattle.bounded.proofs.First.{Least, first-least}
use Rattle.decimal.specs.Decimal.{columns, columns_to, field_at}
use Rattle.decimal.proofs.Laws.{written_read}
use Rattle.decimal.proofs.Rows.{row_at}
use Rattle.sets.specs.Sets.{member, without, disjoint_from}
use Rattle.sets.proofs.Facts.{meet-e, both-i, both-e, without-i, without-e}
use Rattle.network.specs.declared.Network.{Network}
use Rattle.network.specs.Network.{way_of, in_way}
use Rattle.standing.specs.Standing.{lost}
use Rattle.standing.specs.Ways.{lost_in, held_firm, live_at}
use Rattle.run.specs.State.{standing}
use Rattle.run.specs.Sound.{ways_before}
use Rattle.run.specs.declared.Run.{Run}
use Rattle.run.proofs.Facts.{Past, Core, Live, inside, coded-i, coded-e, firm-i, firm-e, lost-i, live-i}
use Rattle.passed_ways.specs.declared.Reason.{Reason}
use Rattle.passed_ways.specs.Listing.{line_bytes, lowest, reason_of, booking_of, line_text, row_of, listing_of, listing}
use Rattle.passed_ways.specs.Story.{line_at, Before, LostIn, LackedBy, Because, by_loss, by_lack, Told, Story}
use Rattle.passed_ways.proofs.LineLaws.{row-wide, rows-length}

-- ---- the lowest member of a set

least : (s : ℕ) → Least (member s) 64 (lowest s)
unfolding lowest
least s = first-least (member s) 64

-- a set with a member below 64 has its lowest as a member
lowest-in : (s b : ℕ) → b < 64 → member s b ≡ true → member s (lowest s) ≡ true
lowest-in s b h e = elim (split? (lowest s) 64) [
  | inl l ↦ (least s).at l
  | inr l ↦ clash (member s b) e ((least s).before b (omega arith))
]

-- ---- a way that is not live has a true reason

module _ (g : Network) (few : g.n ≤ 64) (r : Run) (past : Past g r) (w : ℕ) where
  abbrev way : ℕ
  way = way_of g w

  -- the sets of its lost bookings and of the held firm ones that it lacks
  abbrev gone : ℕ
  gone = bit_and way (standing g r).lost

  abbrev kept : ℕ
  kept = without (held_firm g (standing g r)) way

  gone-i : (b : ℕ) → LostIn g r w b → member gone b ≡ true
  unfolding in_way
  gone-i b (h, e) = both-i way (standing g r).lost b h (coded-i g r lost b (inside g r past b (omega arith)) e)

  gone-e : (b : ℕ) → member gone b ≡ true → LostIn g r w b
  unfolding in_way
  gone-e b m = let t = both-e way (standing g r).lost b m in (t.0, (coded-e g r lost b t.1).1)

  kept-i : (b : ℕ) → LackedBy g r w b → member kept b ≡ true
  unfolding in_way
  kept-i b (h, f, o) =
      let l = inside g r past b (omega arith) in
      without-i (held_firm g (standing g r)) way b (omega arith) (firm-i g r b l h f) o

  kept-e : (b : ℕ) → member kept b ≡ true → LackedBy g r w b
  unfolding in_way
  kept-e b m =
      let t = without-e (held_firm g (standing g r)) way b m in
      let f = firm-e g r b t.1 in
      (f.0, f.1, t.2)

  none-lost : not (disjoint_from way (standing g r).lost) ≡ false → (b : ℕ) → LostIn g r w b → ⊥
  unfolding lost_in
  none-lost e b (h, l) = clash (lost_in (standing g r) way) (lost-i g few r w b (inside g r past b (omega arith)) h l) e

  -- it is not live
  module _ (dead : Live g r w → ⊥) where
    lacks : ((b : ℕ) → LostIn g r w b → ⊥) → member kept (lowest kept) ≡ true
    lacks none = elim (split? (lowest kept) 64) [
      | inl l ↦ (least kept).at l
      | inr l ↦ absurd (dead (record {
        unlost = λ b p q. none b (p, q);
        has-firm = λ b p q. elim (which (in_way g w b)) [
          | inl e ↦ e
          | inr o ↦
              (let k = inside g r past b (omega arith) in
              clash (member kept b) (kept-i b (p, q, o)) ((least kept).before b (omega arith)))
        ];
      }))
    ]

    because : Because g r w (reason_of (standing g r).lost (held_firm g (standing g r)) way)
    unfolding reason_of
    because = by_cond (Because g r w) (λ e.
        let t = meet-e way (standing g r).lost e in
        by_loss (gone-e _ (lowest-in gone t.0 t.1 (both-i way (standing g r).lost t.0 t.2 t.3))) (λ c l h. clash (member gone c) (gone-i c h) ((least gone).before c l)))
        (λ e. by_lack (none-lost e) (kept-e _ (lacks (none-lost e))) (λ c l h. clash (member kept c) (kept-i c h) ((least kept).before c l)))

  -- the booking of a true reason is one of the plan
  booked : (y : Reason) → Because g r w y → booking_of y < g.n
  booked y (by_loss h l) = inside g r past _ (omega (arith, h.1))
  booked y (by_lack n h l) = inside g r past _ (omega (arith, h.0))

  -- its line read column by column
  told : (y : Reason) → Because g r w y → w < 10 ^ 4 → Told g r w (line_text w y)
  unfolding field_at line_text columns columns_to
  told y h k =
      let b = booked y h in
      record {
        reason = y;
        true_of = h;
        booked = b;
        opens = refl;
        way = written_read 4 w k;
        letter = refl;
        booking = written_read 4 (suc (booking_of y)) (omega arith);
        closes = refl;
      }

-- ---- which ways the lines are of

module _ (g : Network) (r : Run) where
  present : (i : ℕ) → Before g r (suc i) → i < ways_before g r.way
  unfolding ways_before
  present i (z, h, o) = go r.way o
    where
      go : (w : ℕ) → (w ≡ 0) ⊎ (suc i < w) → i < ways_before g w
      go zero o = h
      go (suc k) (inl e) = absurd (omega arith)
      go (suc k) (inr l) = omega arith

  only : r.way ≤ g.a → (i : ℕ) → i < ways_before g r.way → Before g r (suc i)
  unfolding ways_before
  only k i l = go r.way k l
    where
      go : (w : ℕ) → w ≤ g.a → i < ways_before g w → (0 < suc i) × (suc i ≤ g.a) × ((w ≡ 0) ⊎ (suc i < w))
      go zero k l = (omega arith, l, inl refl)
      go (suc v) k l = (omega arith, omega arith, inr (omega arith))

-- ---- the story

pub listing-length : (g : Network) (r : Run) → length (listing g r) ≡ line_bytes * ways_before g r.way
unfolding listing listing_of
listing-length g r = rows-length _ _ _ _

-- line i is of way i + 1
line-is : (g : Network) (r : Run) (i : ℕ) → i < ways_before g r.way
    → line_at (listing g r) i ≡ line_text (suc i) (reason_of (standing g r).lost (held_firm g (standing g r)) (way_of g (suc i)))
unfolding line_at listing listing_of row_of way_of
line-is g r i l =
    let f : ℕ → List ℕ = row_of (standing g r).lost (held_firm g (standing g r)) g.way in
    rw append-nil at (row_at line_bytes f (ways_before g r.way) i [] (row-wide (standing g r).lost (held_firm g (standing g r)) g.way (ways_before g r.way)) l)

pub story : (g : Network) → g.n ≤ 64 → g.a ≤ 16 → (r : Run) → Core g r → Story g r (listing g r)
story g few ways r c =
    record {
      lines = ways_before g r.way;
      whole = listing-length g r;
      told = λ i l.
          let b = only g r c.way i l in
          rw (line-is g r i l) (told g few r c.past (suc i) _ (because g few r c.past (suc i) (λ x. clash (live_at g (standing g r) i) (live-i g r i x) (c.earlier i l))) (omega (arith, b.1)));
      present = present g r;
      only = only g r c.way;
    }
