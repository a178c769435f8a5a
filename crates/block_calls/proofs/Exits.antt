-- What the call of a block gives, and what it leaves, at each of its exits.
-- Assumes nothing.
use mathlib.Core.Path.{◌≡◌, ap}
use mathlib.Core.List.{List}
use Prim.Native.Nat.{ℕ, ◌≤◌}
use Rattle.std.specs.Prelude.{Option, Ok, Err}
use Rattle.network.specs.declared.Network.{Network}
use Rattle.run.specs.Bytes.{bytes_of, run_of}
use Rattle.calls.specs.Calls.{network_in, in_order, refused_with}
use Rattle.calls.specs.Refusals.{Answers, Refused, TakenUp}
use Rattle.calls.specs.declared.Refusal.{Refusal}
use Rattle.calls.specs.declared.Campaign.{Campaign}
use Rattle.lent_state.specs.Lines.{number_of}
use Rattle.lent_state.specs.Stands.{Stands}
use Rattle.lent_state.specs.declared.LineFault.{LineFault}
use Rattle.lent_state.proofs.Bytes.{codes-size}
use Rattle.block_calls.proofs.Few.{kept-few}
use Rattle.block_calls.specs.Block.{lines_of, Block, block_of, bits_of, block_bits, block_in, block_call, block_leaves}

module _ (s block bs : List ℕ) where
  pub block_refused : (r : Refusal) → Refused (in_order s bs) (refused_with s) r → Answers (block_call s block bs) (Err r) × (bs ≡ block_leaves s block bs)
  unfolding block_call block_leaves
  block_refused r h = (rw h.fails (record { bits = h.bits; fits = h.fits }), rw h.fails)

  module _ (c : Campaign) (h : TakenUp s bs c) where
    -- what taking the lines relies on
    pub lines-ready : Stands c.chart.network c.standing bs
    lines-ready = record { size = h.size; way = rw h.run at h.way; stands = rw h.run at h.standing }

    -- the block, and its parts as they are told
    abbrev taken : Block
    taken = block_of c.chart.network (run_of bs) (lines_of block)

    module _ (kept : ℕ) (fault : Option LineFault) (told : (kept ≡ taken.kept) × (number_of fault ≡ taken.fault)) where
      pub told-few : kept ≤ 64
      told-few = rw told.0 (kept-few c.chart.network c.chart.few_bookings (run_of bs) (codes-size bs h.size) (lines_of block))

      pub block-done : (x : ℕ) → x ≡ bits_of kept (number_of fault) → (after : List ℕ) → after ≡ bytes_of taken.run → Answers (block_call s block bs) (Ok x) × (after ≡ block_leaves s block bs)
      unfolding block_call block_leaves block_in block_bits
      block-done x p after w =
          let z : taken ≡ block_of (network_in s) (run_of bs) (lines_of block) = ap (λ (g : Network). block_of g (run_of bs) (lines_of block)) h.network in
          (record { bits = rw (h.order, ← z, ← told.0, ← told.1) p; fits = tt }, rw (h.order, ← z) w)
