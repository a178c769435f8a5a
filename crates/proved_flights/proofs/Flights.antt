-- The flights of the table come out as expected: one proof, by computation, over all rows.
-- Assumes nothing.
use mathlib.Core.Path.{◌≡◌, refl}
use mathlib.Core.List.{map}
use Rattle.bounded.specs.Bounded.{any, all, seek, first, count, table}
use Rattle.sets.specs.Sets.{member, gather, inserted, insert, kept, subset_of, apart, disjoint_from, some, only, without, size_of}
use Rattle.desks.specs.Desks.{open_at, is_full, full_for, desk_full}
use Rattle.precedence.specs.Precedence.{joined_of, through_at, through_of, closure_to, closure_of}
use Rattle.network.specs.FromPlan.{one_of, of_kind, joins, linked, direct_at, direct_of, at_desk, desk_at, desks_of, network_of}
use Rattle.network.specs.Network.{way_of, in_way, before, pre, firm, exposed}
use Rattle.verdict.specs.Check.{circular, gap, unclosed, used_by, unused, same_way, repeated, stays, staying, leads_to, settled_by, safe, refuge, later_refuge, stranding, strands, check, verdict_number, verdict_place}
use Rattle.standing.specs.Standing.{code_is, coded, matters}
use Rattle.standing.specs.Ways.{supports, precedes_some, ready, lost_in, held_firm, live, live_at, first_live}
use Rattle.run.specs.State.{code, start}
use Rattle.run.specs.Orders.{passed, may_return, to_return, may_request, to_request, ending, next}
use Rattle.run.specs.Replies.{to_switch, settle, after_no, reply}
use Rattle.guarantee.specs.Answers.{pack, order_bits, place9, reply_bits, check_bits}
use Rattle.guarantee.specs.Machine.{reply_to, answer, after, machine_answers}
use Rattle.proved_flights.specs.Flights.{Flight, outcome, link, set_of, planned_at, plan_of, passes, refuses, request, return, accepted, flown_by, waits, called_off, checked, with_links, flown, limited, chased, flights}

pub flights-hold : map outcome flights ≡ map (λ (f : Flight). f.expected) flights
unfolding any all seek first count table member gather inserted insert kept subset_of apart disjoint_from joined_of through_at through_of closure_to closure_of one_of of_kind joins linked direct_at direct_of at_desk desk_at desks_of network_of way_of in_way before pre firm exposed some circular gap unclosed used_by unused same_way repeated stays staying leads_to settled_by safe refuge later_refuge stranding strands check verdict_number verdict_place only without size_of open_at is_full full_for desk_full code_is coded matters supports precedes_some ready lost_in held_firm live live_at first_live code start passed may_return to_return may_request to_request ending next to_switch settle after_no reply pack order_bits place9 reply_bits check_bits reply_to answer after machine_answers outcome link set_of planned_at plan_of passes refuses request return accepted flown_by waits called_off checked with_links flown limited chased flights
flights-hold = refl
