-- What a listing tells of a state: each line is true, no way that was passed over is absent, and no other way is there.
-- Assumes nothing.
use Rattle.std.specs.Prelude.{ℕ, suc, ◌*◌, ◌≤◌, ◌<◌, ◌≡◌, ◌⊎◌, true, false, Ok, List, length, get_or, take, drop}
use Rattle.decimal.specs.Decimal.{field_at}
use Rattle.network.specs.declared.Network.{Network}
use Rattle.network.specs.Network.{in_way, firm}
use Rattle.standing.specs.Standing.{held, lost}
use Rattle.run.specs.State.{code}
use Rattle.run.specs.declared.Run.{Run}
use Rattle.passed_ways.specs.declared.Reason.{Reason}
use Rattle.passed_ways.specs.declared.Reason.TheVariants.{Lost, Lacks}
use Rattle.passed_ways.specs.Listing.{line_bytes, letter_of, booking_of}

-- line i of a listing, from 0
unfoldable pub line_at : List ℕ → ℕ → List ℕ
line_at text i = take line_bytes (drop (line_bytes * i) text)

module _ (g : Network) (r : Run) where
  -- way w stands before the current one; where the campaign is being called off, every way does
  abbrev pub Before : ℕ → Type 0
  Before w = (0 < w) × (w ≤ g.a) × ((r.way ≡ 0) ⊎ (w < r.way))

  -- b is a lost booking of way w
  abbrev pub LostIn : ℕ → ℕ → Type 0
  LostIn w b = (in_way g w b ≡ true) × (code r b ≡ lost)

  -- b is a held firm booking that way w lacks
  abbrev pub LackedBy : ℕ → ℕ → Type 0
  LackedBy w b = (code r b ≡ held) × (firm g b ≡ true) × (in_way g w b ≡ false)

  -- THE REASON IS TRUE: the lowest lost booking of way w; or none is lost, and it is the lowest held firm one that the way lacks
  pub data Because (w : ℕ) : Reason → Type 0 where
    by_loss : {b : ℕ} → LostIn w b → ((c : ℕ) → c < b → LostIn w c → ⊥) → Because w (Lost b)
    by_lack : {b : ℕ} → ((c : ℕ) → LostIn w c → ⊥) → LackedBy w b → ((c : ℕ) → c < b → LackedBy w c → ⊥) → Because w (Lacks b)

  -- A LINE IS TRUE: read column by column it shows `V`, way w, the letter and the booking of a true reason, and ends
  pub record Told (w : ℕ) (line : List ℕ) : Type 0 where
    pub reason : Reason
    pub true_of : Because w reason
    pub booked : booking_of reason < g.n
    pub opens : get_or line 0 0 ≡ 86
    pub way : field_at 4 1 line ≡ Ok w
    pub letter : get_or line 5 0 ≡ letter_of reason
    pub booking : field_at 4 6 line ≡ Ok (suc (booking_of reason))
    pub closes : get_or line 10 0 ≡ 10

  -- THE STORY: the text is whole lines; line i is of way i + 1 and true; every way before the current one has its line, and no other has one
  pub record Story (text : List ℕ) : Type 0 where
    pub lines : ℕ
    pub whole : length text ≡ line_bytes * lines
    pub told : (i : ℕ) → i < lines → Told (suc i) (line_at text i)
    pub present : (i : ℕ) → Before (suc i) → i < lines
    pub only : (i : ℕ) → i < lines → Before (suc i)
