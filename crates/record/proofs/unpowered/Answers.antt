-- Each part of the default record is zero or false.
use Prim.Native.Nat.{ℕ, ◌<◌}
use mathlib.Core.Path.{◌≡◌, sym, ◌∙◌}
use mathlib.Core.List.{List}
use native.Mathlib.Omega.{arith}
use lib.ListN.{length, get_or, replicate, length-replicate, get_or-replicate}
use lib.Seq.{ext_get_or}
use Rattle.rules.specs.Record.{unpowered}
use Rattle.record.proofs.unpowered.Goals as goal

-- twenty levels that are each zero
all_zero : (ls : List ℕ) → length ls ≡ 20 → ((k : ℕ) → k < 20 → get_or ls k 0 ≡ 0) → ls ≡ replicate 20 0
all_zero ls l z =
    let long = length-replicate {A = ℕ} 20 0 in
    ext_get_or 0 ls (replicate 20 0) (l ∙ sym long) (λ k h. let b : k < 20 = omega (arith, h, l) in z k b ∙ sym (get_or-replicate 20 k 0 0 b))

pub returns : goal.returns
unfolding unpowered
returns c =
    let zero = c.default.ensures in
    let core = zero.0 in
    let rest = zero.1 in
    let o = core.1.0 in
    let from_control = core.1.1 in
    let q = from_control.0 in
    let from_mode = from_control.1 in
    let from_calibration = from_mode.1 in
    let from_clock = from_calibration.1 in
    let k = from_clock.0 in
    let from_burst = from_clock.1 in
    let from_load = from_burst.1 in
    let from_lost = from_load.1 in
    let x = from_lost.1 in
    let ls = all_zero _ x.1.1.long (λ k h. x.1.1.at k 0 h) in
    record {
      told = λ i. record {
        core = record {
          powered = core.0 i;
          options = record { range = o.0 i; filter = o.1.0 i; kit = o.1.1.0 i; firmware = o.1.1.1 i };
          control = record {
            bursts = q.0 i;
            ground_sense = q.1.0 i;
            binary = q.1.1.0 i;
            differential = q.1.1.1.0 i;
            barred = q.1.1.1.1.0 i;
            simultaneous = q.1.1.1.1.1.0 i;
            selection = q.1.1.1.1.1.1 i;
          };
          mode = record { external = from_mode.0.0 i; enabled = from_mode.0.1.0 i; circular = from_mode.0.1.1 i };
          calibration = record { running = from_calibration.0.0 i; failed = from_calibration.0.1.0 i; calibrated = from_calibration.0.1.1 i };
          clock = record { divisor = k.0 i; nclk = k.1.0 i; alt = k.1.1.0 i; settling = k.1.1.1 i };
          burst = record { running = from_burst.0.0 i; software = from_burst.0.1 i };
          load = record { pending = from_load.0.0 i; opened = from_load.0.1 i };
          lost = record { full = from_lost.0.0 i; closed = from_lost.0.1 i };
          outputs = record { mask = x.0 i; cursor = x.1.0 i; levels = ls i };
        };
        size = record { fitted = rest.0.0 i; code = rest.0.1 i };
        request = rest.1.0 i;
        ring = record { first = rest.1.1.0 i; count = rest.1.1.1 i };
      };
    }
