-- Soundness: the test is exactly the facts.
--   SoundCore c     the facts of `sound_core`, by parts, so that a rule need only speak of the parts that it changes
use Prim.Native.Nat.{ℕ, ◌^◌, ◌≤◌, ◌<◌}
use mathlib.Core.Path.{◌≡◌, refl, sym, ◌∙◌}
use mathlib.Core.Bool.{Bool, true, false, ◌||◌, true≢false}
use native.Mathlib.Decide.{dec_lt}
use native.Mathlib.Omega.{arith}
use borrow.Author.Tests.{ltb-true, leb-true, le-leb, lt-ltb, eqb-true, eq-eqb}
use Rattle.rules.specs.Types.{Options, Size, Burst, Load, Outputs, Core, Ring, Board}
use Rattle.rules.specs.Bits.{bit}
use Rattle.rules.specs.Record.{depth_of, channels, options_in_range, sound_core, sound_ring, sound}
use Rattle.rules.specs.Laws.Soundness.{Sound, Sound-exactly}
use Rattle.rules.proofs.Choice.{and_both, both_and, or_left, or_right, all_cons, cons_all, all_nil, only_if_to, only_if_from, not_and_to, not_and_from}
use Rattle.rules.proofs.Masks.{bit_below, below_bits}

-- ---- Soundness by parts

pub record SoundOptions (o : Options) : Type 0 where
  pub range : o.range ≤ 2
  pub filter : o.filter ≤ 2
  pub kit : o.kit ≤ 2
  pub firmware : o.firmware ≤ 4095

pub record SoundOutputs (kit : ℕ) (simultaneous : Bool) (x : Outputs) : Type 0 where
  pub mask : x.mask < 2 ^ channels kit
  pub cursor : x.cursor ≤ 20
  pub zeroed : simultaneous ≡ true → x.cursor ≡ 0

pub record SoundLoad (circular : Bool) (x : Load) : Type 0 where
  pub pending : x.pending ≡ true → circular ≡ true
  pub opened : x.opened ≡ true → circular ≡ true
  pub apart : x.pending ≡ true → x.opened ≡ false

pub record SoundBurst (bursts : Bool) (x : Burst) : Type 0 where
  pub running : x.running ≡ true → bursts ≡ true
  pub software : x.software ≡ true → x.running ≡ true

pub record SoundCore (c : Core) : Type 0 where
  pub powered : c.powered ≡ true
  pub options : SoundOptions c.options
  pub outputs : SoundOutputs c.options.kit c.control.simultaneous c.outputs
  pub selection : c.control.selection ≤ 7
  pub nclk : c.clock.nclk ≤ 511
  pub load : SoundLoad c.mode.circular c.load
  pub burst : SoundBurst c.control.bursts c.burst
  pub calibrating : c.calibration.running ≡ true → c.calibration.calibrated ≡ false

pub record SoundRing (z : Size) (r : Ring) : Type 0 where
  pub fitted : z.fitted ≤ 15
  pub code : z.code ≤ 15
  pub first : r.first < depth_of z.fitted
  pub count : r.count ≤ depth_of z.fitted

-- ---- The tests are the parts

options_to : (o : Options) → options_in_range o ≡ true → SoundOptions o
unfolding options_in_range
options_to o h =
    let a = all_cons _ _ h in
    let b = all_cons _ _ a.1 in
    let c = all_cons _ _ b.1 in
    let d = all_cons _ _ c.1 in
    record { range = leb-true _ _ a.0; filter = leb-true _ _ b.0; kit = leb-true _ _ c.0; firmware = leb-true _ _ d.0 }

options_from : (o : Options) → SoundOptions o → options_in_range o ≡ true
unfolding options_in_range
options_from o s =
    cons_all _ _ (le-leb _ _ s.range) (cons_all _ _ (le-leb _ _ s.filter) (cons_all _ _ (le-leb _ _ s.kit) (cons_all _ _ (le-leb _ _ s.firmware) all_nil)))

or_either : (x y c : Bool) → (x ≡ true → c ≡ true) → (y ≡ true → c ≡ true) → x || y ≡ true → c ≡ true
or_either true y c f g h = f refl
or_either false y c f g h = g h

pub core_to : (c : Core) → sound_core c ≡ true → SoundCore c
unfolding sound_core
core_to c h0 =
    let h1 = all_cons _ _ h0 in
    let h2 = all_cons _ _ h1.1 in
    let h3 = all_cons _ _ h2.1 in
    let h4 = all_cons _ _ h3.1 in
    let h5 = all_cons _ _ h4.1 in
    let h6 = all_cons _ _ h5.1 in
    let h7 = all_cons _ _ h6.1 in
    let h8 = all_cons _ _ h7.1 in
    let h9 = all_cons _ _ h8.1 in
    let h10 = all_cons _ _ h9.1 in
    let h11 = all_cons _ _ h10.1 in
    let h12 = all_cons _ _ h11.1 in
    let circles = only_if_to (c.load.pending || c.load.opened) c.mode.circular h8.0 in
    record {
      powered = h1.0;
      options = options_to c.options h2.0;
      outputs = record {
        mask = ltb-true _ _ h3.0;
        cursor = leb-true _ _ h4.0;
        zeroed = λ e. eqb-true _ _ (only_if_to _ _ h5.0 e);
      };
      selection = leb-true _ _ h6.0;
      nclk = leb-true _ _ h7.0;
      load = record {
        pending = λ e. circles (or_left _ c.load.opened e);
        opened = λ e. circles (or_right c.load.pending _ e);
        apart = not_and_to c.load.pending c.load.opened h9.0;
      };
      burst = record { running = only_if_to _ _ h10.0; software = only_if_to _ _ h11.0 };
      calibrating = not_and_to c.calibration.running c.calibration.calibrated h12.0;
    }

pub core_from : (c : Core) → SoundCore c → sound_core c ≡ true
unfolding sound_core
core_from c s =
    cons_all _ _ s.powered
    (cons_all _ _ (options_from c.options s.options)
    (cons_all _ _ (lt-ltb _ _ s.outputs.mask)
    (cons_all _ _ (le-leb _ _ s.outputs.cursor)
    (cons_all _ _ (only_if_from _ _ (λ e. eq-eqb _ _ (s.outputs.zeroed e)))
    (cons_all _ _ (le-leb _ _ s.selection)
    (cons_all _ _ (le-leb _ _ s.nclk)
    (cons_all _ _ (only_if_from _ _ (or_either c.load.pending c.load.opened c.mode.circular s.load.pending s.load.opened))
    (cons_all _ _ (not_and_from c.load.pending c.load.opened s.load.apart)
    (cons_all _ _ (only_if_from _ _ s.burst.running)
    (cons_all _ _ (only_if_from _ _ s.burst.software)
    (cons_all _ _ (not_and_from c.calibration.running c.calibration.calibrated s.calibrating) all_nil)))))))))))

ring_to : (z : Size) (r : Ring) → sound_ring z r ≡ true → SoundRing z r
unfolding sound_ring
ring_to z r h =
    let a = all_cons _ _ h in
    let b = all_cons _ _ a.1 in
    let c = all_cons _ _ b.1 in
    let d = all_cons _ _ c.1 in
    record { fitted = leb-true _ _ a.0; code = leb-true _ _ b.0; first = ltb-true _ _ c.0; count = leb-true _ _ d.0 }

pub ring_from : (z : Size) (r : Ring) → SoundRing z r → sound_ring z r ≡ true
unfolding sound_ring
ring_from z r s =
    cons_all _ _ (le-leb _ _ s.fitted) (cons_all _ _ (le-leb _ _ s.code) (cons_all _ _ (lt-ltb _ _ s.first) (cons_all _ _ (le-leb _ _ s.count) all_nil)))

-- ---- The facts of Laws/Soundness are the parts and the ring

pub sound_core_lem : (b : Board) → Sound b → SoundCore b.core
sound_core_lem b s =
    record {
      powered = s.powered;
      options = record { range = s.range; filter = s.filter; kit = s.kit; firmware = s.firmware };
      outputs = record { mask = below_bits _ _ s.mask; cursor = s.cursor; zeroed = s.zeroed };
      selection = s.selection;
      nclk = s.nclk;
      load = record { pending = s.pending; opened = s.opened; apart = s.apart };
      burst = record { running = s.running; software = s.software };
      calibrating = s.calibrating;
    }

fits : (n v : ℕ) → v < 2 ^ n → (k : ℕ) → bit k v ≡ true → k < n
fits n v h k t = go (dec_lt k n)
  where
    go : Dec (k < n) → k < n
    go (yes l) = l
    go (no l) = absurd (true≢false (sym t ∙ bit_below n k v h (omega arith)))

pub sound_ring_lem : (b : Board) → Sound b → SoundRing b.size b.ring
sound_ring_lem b s = record { fitted = s.fitted; code = s.code; first = s.first; count = s.count }

pub sound_parts : (b : Board) → SoundCore b.core → SoundRing b.size b.ring → Sound b
sound_parts b c r =
    record {
      powered = c.powered;
      fitted = r.fitted;
      range = c.options.range;
      filter = c.options.filter;
      kit = c.options.kit;
      firmware = c.options.firmware;
      first = r.first;
      count = r.count;
      mask = fits _ _ c.outputs.mask;
      cursor = c.outputs.cursor;
      zeroed = c.outputs.zeroed;
      code = r.code;
      selection = c.selection;
      nclk = c.nclk;
      pending = c.load.pending;
      opened = c.load.opened;
      apart = c.load.apart;
      running = c.burst.running;
      software = c.burst.software;
      calibrating = c.calibrating;
    }

pub sound_exactly : Sound-exactly
unfolding sound
sound_exactly b = (
  λ h.
      let t = and_both (sound_core b.core) (sound_ring b.size b.ring) h in
      sound_parts b (core_to b.core t.0) (ring_to b.size b.ring t.1),
  λ h. both_and _ _ (core_from b.core (sound_core_lem b h)) (ring_from b.size b.ring (sound_ring_lem b h)),
)
