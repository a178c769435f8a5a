-- The lines of the links, which follow those of the n bookings: the first stands on line n + 2.
-- Assumes nothing.
use Rattle.std.specs.Prelude.{ℕ, zero, suc, ◌+◌, List, [], ◌++◌, get_or, take, drop, set, Result, Ok, Err}
use Rattle.lines.specs.Form.{link_bytes}
use Rattle.lines.specs.Link.{link_text, link_of}
use Rattle.plan.specs.Judging.{Judged}
use Rattle.lines.specs.LineFault.{fault_on}
use Rattle.lines.specs.declared.LineFault.{LineFault}

-- the lines of so many links, from the link at index i on
unfoldable pub links_text : ℕ → ℕ → List ℕ → List ℕ → List ℕ
links_text zero i us vs = []
links_text (suc more) i us vs = link_text (get_or us i 0) (get_or vs i 0) ++ links_text more (i + 1) us vs

-- the links that their lines give; up to the refused line, if one is
pub record Links : Type 0 where
  pub judged : Judged
  pub from : List ℕ
  pub to : List ℕ

-- on with the pair that a line holds, or refused at line l with the links so far
abbrev pub after_link : Result (ℕ × ℕ) LineFault → ℕ → List ℕ → List ℕ → (ℕ → ℕ → Links) → Links
after_link (Ok pair) l us vs next = next pair.0 pair.1
after_link (Err fault) l us vs next = record { judged = Err (fault_on fault l); from = us; to = vs }

-- the links that so many lines of the rest of a sheet give, from the link at index i on, after the link from lastFrom to last_to
unfoldable pub links_of : ℕ → ℕ → ℕ → List ℕ → ℕ → ℕ → List ℕ → List ℕ → Links
links_of n zero i rest lastFrom last_to us vs = record { judged = Ok tt; from = us; to = vs }
links_of n (suc more) i rest lastFrom last_to us vs =
    after_link (link_of (take link_bytes rest) n lastFrom last_to) (n + 2 + i) us vs (λ u v. links_of n more (i + 1) (drop link_bytes rest) u v (set us i u) (set vs i v))
