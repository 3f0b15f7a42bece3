-- An accepted clock: what `serve` tells and `deal` does is what the rules say of it.
use Prim.Native.Nat.{ℕ}
use mathlib.Core.Path.{◌≡◌, refl, sym, ap, subst, ◌∙◌}
use mathlib.Core.Logic.{◌≢◌}
use mathlib.Core.Bool.{Bool, false}
use mathlib.Core.List.{List, []}
use native.Mathlib.Decide.{ℕ_discrete}
use borrow.Author.Tests.{eq-eqb, ne_eqb}
use lib.ListN.{length}
use Rattle.rules.specs.declared.Core.{Core}
use Rattle.rules.specs.declared.Ring.{Ring}
use Rattle.rules.specs.Bits.{active_from}
use Rattle.rules.specs.declared.Fate.TheVariants.{NoLoad as none}
use Rattle.rules.specs.Parts.{with_burst, with_load, with_outputs}
use Rattle.rules.specs.Clocks.{Play, closed, next_channel, targets, moving, cursor_after, burst_after, load_after, clock}
use Rattle.rules.proofs.Choice.{cond_true}
use Rattle.rules.proofs.Steps.{length_values}
use Rattle.moves.specs.declared.Frame.{Frame}
use Rattle.channels.specs.declared.Serving.{Serving}
use Rattle.channels.specs.Serving.{Sober, to_move, served_by}
use Rattle.rules.specs.Told.{Told}
use Rattle.channels.specs.Serving.{serving_of}
use Rattle.channels.proofs.Moving.{served_targets}
use Rattle.channels.proofs.Ranges.{move_moving}
use Rattle.channels.proofs.ServingTold.{again_closed, moved_told, mask_none, mask_some, cursor_none, cursor_some}
use Rattle.moves.specs.Ready.{Ready, fits}
use Rattle.moves.specs.Does.{Does, ring_values}
use Rattle.moves.specs.Deal.{Dealing, dealing, deal_all}
use Rattle.moves.specs.Promises.{with_levels, joined, Deals}
use Rattle.moves.proofs.Still.{only_does, clock_none}
use Rattle.moves.proofs.Dealt.{core_after, dealt_does}
use Rattle.channels.proofs.Ones.{no_channels}
use Rattle.moves.proofs.Tested.{ready_fits}

abbrev pub frame_of : Core → Ring → Frame
frame_of c ring = record { ring = ring; burst = c.burst; load = c.load }

-- ---- The rules do not look at the levels

module _ (c : Core) (ls : List ℕ) where
  same_moving : (buf : List ℕ) → moving (with_levels c ls) buf ≡ moving c buf
  unfolding moving targets next_channel
  same_moving buf = refl

  same_targets : targets (with_levels c ls) ≡ targets c
  unfolding targets next_channel
  same_targets = refl

  same_cursor : cursor_after (with_levels c ls) ≡ cursor_after c
  unfolding cursor_after next_channel
  same_cursor = refl

  -- without the end of a frame a burst and a load stay
  core_still : core_after c c.outputs.cursor ls false ≡ with_levels c ls
  unfolding burst_after load_after
  core_still = refl

dealt_none : (binary again : Bool) (d : ℕ) (x : Dealing) → deal_all binary again d [] x ≡ x
unfolding deal_all
dealt_none binary again d x = refl

-- ---- The clock

module _ (c : Core) (ring : Ring) (d : ℕ) (ls m : List ℕ) (ready : Ready d ring m) (sober : Sober c) (s : Serving) (r : Frame) (ls' m' : List ℕ)
    (p : Told (serving_of c ring.count) s) (q : Deals s.mask (frame_of c ring) c.control.binary s.again d ls m r ls' m') where
  abbrev buf : List ℕ
  buf = ring_values d ring m

  moved : to_move c ring.count ≡ moving c buf
  moved = move_moving c buf ring.count sober (length_values d ring.first ring.count m)

  -- what was dealt, once the mask is known
  dealt : (mask : ℕ) → s.mask ≡ mask → dealing ls' r.ring q.ended m' ≡ deal_all c.control.binary (closed c) d (active_from 0 mask) (dealing ls ring false m)
  dealt mask e =
      let again = ap (λ (x : Serving). x.again) p.told ∙ again_closed c ring.count in
      let served = cond_true (fits ring d (length m)) s.mask 0 (ready_fits ring d m ready) ∙ e in
      q.dealt ∙ (λ i. deal_all c.control.binary (again i) d (active_from 0 (served i)) (dealing ls ring false m))

  -- the core with the parts, by what the parts are
  parts : (cursor : ℕ) (x : Dealing) → s.cursor ≡ cursor → dealing ls' r.ring q.ended m' ≡ x → joined c s.cursor r ls' ≡ core_after c cursor x.levels x.ended
  parts cursor x e same =
      let b = q.burst ∙ ap (λ (y : Dealing). burst_after y.ended c.burst) same in
      let l = q.load ∙ ap (λ (y : Dealing). load_after y.ended c.load) same in
      λ i. with_burst (b i) (with_load (l i) (with_outputs (record { mask = c.outputs.mask; cursor = e i; levels = (same i).levels }) c))

  none_moves : to_move c ring.count ≡ 0
      → Does d (clock (with_levels c ls) buf) ring m (record { core = joined c s.cursor r ls'; ring = r.ring; moved = s.moved; fate = none }) m'
  none_moves still =
      let e = eq-eqb (to_move c ring.count) 0 still in
      let same = dealt 0 (ap (λ (x : Serving). x.mask) p.told ∙ mask_none c ring.count e)
      ∙ ap (λ (ks : List ℕ). deal_all c.control.binary (closed c) d ks (dealing ls ring false m)) no_channels ∙ dealt_none _ _ d _ in
      let cursor = ap (λ (x : Serving). x.cursor) p.told ∙ cursor_none c ring.count e in
      let w = only_does (with_levels c ls) d ring m in
      subst (λ (x : Play). Does d x ring m (record { core = joined c s.cursor r ls'; ring = r.ring; moved = s.moved; fate = none }) m')
      (sym (clock_none (with_levels c ls) buf (same_moving c ls buf ∙ sym moved ∙ still)))
      (record {
        core = parts _ _ cursor same ∙ core_still c ls ∙ w.core;
        moved = ap (λ (x : Serving). x.moved) p.told ∙ moved_told c ring.count ∙ still;
        fate = refl;
        ring = ap (λ (x : Dealing). x.ring) same ∙ w.ring;
        memory = ap (λ (x : Dealing). x.memory) same ∙ w.memory;
      })

  some_move : to_move c ring.count ≢ 0
      → Does d (clock (with_levels c ls) buf) ring m (record { core = joined c s.cursor r ls'; ring = r.ring; moved = s.moved; fate = none }) m'
  some_move some =
      let e = ne_eqb (to_move c ring.count) 0 some in
      let same = dealt (served_by c) (ap (λ (x : Serving). x.mask) p.told ∙ mask_some c ring.count e)
      ∙ ap (λ (ks : List ℕ). deal_all c.control.binary (closed c) d ks (dealing ls ring false m)) (served_targets c sober.cursor ∙ sym (same_targets c ls)) in
      let cursor = ap (λ (x : Serving). x.cursor) p.told ∙ cursor_some c ring.count e ∙ sym (same_cursor c ls) in
      let w = dealt_does (with_levels c ls) d ring m ready (λ z. some (moved ∙ sym (same_moving c ls buf) ∙ z)) in
      record {
        core = parts _ _ cursor same ∙ w.core;
        moved = ap (λ (x : Serving). x.moved) p.told ∙ moved_told c ring.count ∙ moved ∙ sym (same_moving c ls buf) ∙ w.moved;
        fate = w.fate;
        ring = ap (λ (x : Dealing). x.ring) same ∙ w.ring;
        memory = ap (λ (x : Dealing). x.memory) same ∙ w.memory;
      }

  pub clocked_does : Does d (clock (with_levels c ls) buf) ring m (record { core = joined c s.cursor r ls'; ring = r.ring; moved = s.moved; fate = none }) m'
  clocked_does = go (ℕ_discrete (to_move c ring.count) 0)
    where
      go : Dec (to_move c ring.count ≡ 0)
          → Does d (clock (with_levels c ls) buf) ring m (record { core = joined c s.cursor r ls'; ring = r.ring; moved = s.moved; fate = none }) m'
      go (yes e) = none_moves e
      go (no n) = some_move n
