-- The flights that are proved of the rules, as one table: a plan, what the check says of it, and what calls from the start answer.
-- Assumes nothing.
use Rattle.std.specs.Prelude.{List, [], ◌∷◌, map, ℕ, pred, length}
use Rattle.sets.specs.Sets.{insert}
use Rattle.plan.specs.Limits.{most_matters, C, P, R, D}
use Rattle.plan.specs.declared.Plan.{Plan}
use Rattle.network.specs.FromPlan.{network_of}
use Rattle.verdict.specs.Check.{check}
use Rattle.run.specs.State.{start}
use Rattle.run.specs.Replies.{Y, N, G, K}
use Rattle.guarantee.specs.Answers.{pack, check_bits}
use Rattle.guarantee.specs.Machine.{Asked, next_order, replied, machine_answers}

pub record Flight : Type 0 where
  pub plan : Plan
  pub calls : List Asked
  -- the 32 bits of the check, then of each call
  pub expected : List ℕ

-- what the rules give
unfoldable pub outcome : Flight → List ℕ
outcome f = let g = network_of f.plan in check_bits (check g) ∷ machine_answers g start f.calls

-- ---- plans by their letters, links and ways, all by number

pub record Link : Type 0 where
  pub from : ℕ
  pub to : ℕ

unfoldable pub link : ℕ → ℕ → Link
link u v = record { from = u; to = v }

unfoldable pub set_of : List ℕ → ℕ
set_of [] = 0
set_of (b ∷ bs) = insert (set_of bs) (pred b)

-- its desks, and how many matters each may have open
unfoldable pub planned_at : List ℕ → ℕ → List ℕ → List Link → List (List ℕ) → Plan
planned_at ds limit ks ls ws =
    record {
      n = length ks;
      m = length ls;
      a = length ws;
      limit = limit;
      kind = ks;
      desk = ds;
      from = map (λ l. l.from) ls;
      to = map (λ l. l.to) ls;
      way = map set_of ws;
    }

-- one desk for all, with the greatest limit
unfoldable pub plan_of : List ℕ → List Link → List (List ℕ) → Plan
plan_of ks ls ws = planned_at (map (λ k. 1) ks) most_matters ks ls ws

-- ---- answers

unfoldable pub passes : ℕ
passes = pack 6 0 0

unfoldable pub refuses : ℕ → ℕ → ℕ
refuses number place = pack 0 number place

unfoldable pub request : ℕ → ℕ
request b = pack 1 0 b

unfoldable pub return : ℕ → ℕ
return b = pack 2 0 b

unfoldable pub accepted : ℕ → ℕ
accepted b = pack 6 0 b

unfoldable pub flown_by : ℕ → ℕ
flown_by w = pack 4 0 w

unfoldable pub waits : ℕ
waits = pack 3 0 0

unfoldable pub called_off : ℕ
called_off = pack 5 0 0

-- a plan that is checked only
unfoldable pub checked : List ℕ → List Link → List (List ℕ) → ℕ → Flight
checked ks ls ws x = record { plan = plan_of ks ls ws; calls = []; expected = x ∷ [] }

-- a plan that passes and is run, with links and without
unfoldable pub with_links : List ℕ → List Link → List (List ℕ) → List Asked → List ℕ → Flight
with_links ks ls ws qs xs = record { plan = plan_of ks ls ws; calls = qs; expected = passes ∷ xs }

unfoldable pub flown : List ℕ → List (List ℕ) → List Asked → List ℕ → Flight
flown ks ws qs xs = with_links ks [] ws qs xs

-- a plan with desks that is run
unfoldable pub limited : List ℕ → ℕ → List ℕ → List (List ℕ) → List Asked → List ℕ → Flight
limited ds limit ks ws qs xs = record { plan = planned_at ds limit ks [] ws; calls = qs; expected = passes ∷ xs }

-- a chase aircraft, a slot, and a tanker after the slot; all three, the slot alone, or the slot and the tanker. The first two are requested
unfoldable pub chased : List Asked → List ℕ → Flight
chased qs xs =
    with_links (C ∷ C ∷ P ∷ []) (link 2 3 ∷ []) ((1 ∷ 2 ∷ 3 ∷ []) ∷ (2 ∷ []) ∷ (2 ∷ 3 ∷ []) ∷ []) (next_order ∷ next_order ∷ qs) (request 1 ∷ request 2 ∷ xs)

unfoldable pub flights : List Flight
flights =
    -- the tanker
    checked (C ∷ P ∷ C ∷ R ∷ []) (link 1 2 ∷ link 2 3 ∷ link 2 4 ∷ []) ((1 ∷ 2 ∷ 3 ∷ []) ∷ (1 ∷ 2 ∷ 4 ∷ []) ∷ []) passes
    -- the tanker without booking 4, its link and way 2
    ∷ checked (C ∷ P ∷ C ∷ []) (link 1 2 ∷ link 2 3 ∷ []) ((1 ∷ 2 ∷ 3 ∷ []) ∷ []) (refuses 8 259)
    -- two pivots without a link in one way
    ∷ checked (P ∷ P ∷ []) [] ((1 ∷ 2 ∷ []) ∷ []) (refuses 8 257)
    -- a pivot and a repeatable, and the repeatable alone as second way; then as first
    ∷ checked (P ∷ R ∷ []) [] ((1 ∷ 2 ∷ []) ∷ (2 ∷ []) ∷ []) passes
    ∷ checked (P ∷ R ∷ []) [] ((2 ∷ []) ∷ (1 ∷ 2 ∷ []) ∷ []) (refuses 8 513)
    -- a pivot and a repeatable in the only way; one that can be given back as well, in its place
    ∷ checked (P ∷ R ∷ []) [] ((1 ∷ 2 ∷ []) ∷ []) (refuses 8 257)
    ∷ checked (P ∷ D ∷ []) [] ((1 ∷ 2 ∷ []) ∷ []) passes
    -- a circle
    ∷ checked (C ∷ C ∷ []) (link 1 2 ∷ link 2 1 ∷ []) ((1 ∷ 2 ∷ []) ∷ []) (refuses 4 1)
    -- a way without what precedes its booking
    ∷ checked (C ∷ C ∷ []) (link 1 2 ∷ []) ((1 ∷ 2 ∷ []) ∷ (2 ∷ []) ∷ []) (refuses 5 2)
    -- one returnable booking, refused
    ∷ flown (C ∷ []) ((1 ∷ []) ∷ []) (next_order ∷ replied N 1 ∷ next_order ∷ []) (request 1 ∷ accepted 1 ∷ called_off ∷ [])
    -- two of them: one held and one refused, so the held one goes back
    ∷ flown (C ∷ C ∷ []) ((1 ∷ 2 ∷ []) ∷ []) (next_order ∷ next_order ∷ replied Y 1 ∷ replied N 2 ∷ next_order ∷ [])
    (request 1 ∷ request 2 ∷ accepted 1 ∷ accepted 2 ∷ return 1 ∷ [])
    -- its return fails once
    ∷ flown (C ∷ C ∷ []) ((1 ∷ 2 ∷ []) ∷ [])
    (next_order ∷ next_order ∷ replied Y 1 ∷ replied N 2 ∷ next_order ∷ replied K 1 ∷ next_order ∷ replied G 1 ∷ next_order ∷ [])
    (request 1 ∷ request 2 ∷ accepted 1 ∷ accepted 2 ∷ return 1 ∷ accepted 1 ∷ return 1 ∷ accepted 1 ∷ called_off ∷ [])
    -- the pivot and the D: refused, the D is requested again and held
    ∷ flown (P ∷ D ∷ []) ((1 ∷ 2 ∷ []) ∷ [])
    (next_order ∷ next_order ∷ replied N 2 ∷ replied Y 1 ∷ next_order ∷ replied Y 2 ∷ next_order ∷ [])
    (request 1 ∷ request 2 ∷ accepted 2 ∷ accepted 1 ∷ request 2 ∷ accepted 2 ∷ flown_by 1 ∷ [])
    -- held, it goes back where the pivot is refused
    ∷ flown (P ∷ D ∷ []) ((1 ∷ 2 ∷ []) ∷ [])
    (next_order ∷ next_order ∷ replied Y 2 ∷ replied N 1 ∷ next_order ∷ replied G 2 ∷ next_order ∷ [])
    (request 1 ∷ request 2 ∷ accepted 2 ∷ accepted 1 ∷ return 2 ∷ accepted 2 ∷ called_off ∷ [])
    -- two telemetry vans at one desk and a chase aircraft at another, one matter at a time for each desk: the second van is passed over
    ∷ limited (1 ∷ 1 ∷ 2 ∷ []) 1 (C ∷ C ∷ C ∷ []) ((1 ∷ 2 ∷ 3 ∷ []) ∷ [])
    (next_order ∷ next_order ∷ next_order ∷ replied Y 1 ∷ next_order ∷ next_order ∷ [])
    (request 1 ∷ request 3 ∷ waits ∷ accepted 1 ∷ request 2 ∷ waits ∷ [])
    -- two at a time
    ∷ limited (1 ∷ 1 ∷ 2 ∷ []) 2 (C ∷ C ∷ C ∷ []) ((1 ∷ 2 ∷ 3 ∷ []) ∷ [])
    (next_order ∷ next_order ∷ next_order ∷ next_order ∷ [])
    (request 1 ∷ request 2 ∷ request 3 ∷ waits ∷ [])
    -- the vans go back one after the other
    ∷ limited (1 ∷ 1 ∷ 2 ∷ []) 1 (C ∷ C ∷ C ∷ []) ((1 ∷ 2 ∷ 3 ∷ []) ∷ [])
    (next_order ∷ replied Y 1 ∷ next_order ∷ replied Y 2 ∷ next_order ∷ replied N 3 ∷ next_order ∷ next_order ∷ replied G 1 ∷ next_order ∷ replied G 2 ∷ next_order ∷ [])
    (request 1 ∷ accepted 1 ∷ request 2 ∷ accepted 2 ∷ request 3 ∷ accepted 3 ∷ return 1 ∷ waits ∷ accepted 1 ∷ return 2 ∷ accepted 2 ∷ called_off ∷ [])
    -- two replies to one booking: the first counts and the second does not fit, so it matters which comes first
    ∷ flown (C ∷ []) ((1 ∷ []) ∷ []) (next_order ∷ replied Y 1 ∷ replied N 1 ∷ next_order ∷ []) (request 1 ∷ accepted 1 ∷ refuses 9 1 ∷ flown_by 1 ∷ [])
    ∷ flown (C ∷ []) ((1 ∷ []) ∷ []) (next_order ∷ replied N 1 ∷ replied Y 1 ∷ next_order ∷ []) (request 1 ∷ accepted 1 ∷ refuses 9 1 ∷ called_off ∷ [])
    -- the chase aircraft is refused and the slot confirmed: in either order the slot alone is flown
    ∷ chased (replied N 1 ∷ replied Y 2 ∷ next_order ∷ []) (accepted 1 ∷ accepted 2 ∷ flown_by 2 ∷ [])
    ∷ chased (replied Y 2 ∷ replied N 1 ∷ next_order ∷ []) (accepted 2 ∷ accepted 1 ∷ flown_by 2 ∷ [])
    -- with an order taken between them it matters: after the refusal there is none to give, after the slot the tanker is requested, and flies
    ∷ chased (replied N 1 ∷ next_order ∷ replied Y 2 ∷ next_order ∷ []) (accepted 1 ∷ waits ∷ accepted 2 ∷ flown_by 2 ∷ [])
    ∷ chased (replied Y 2 ∷ next_order ∷ replied N 1 ∷ replied Y 3 ∷ next_order ∷ []) (accepted 2 ∷ request 3 ∷ accepted 1 ∷ accepted 3 ∷ flown_by 3 ∷ [])
    ∷ []
