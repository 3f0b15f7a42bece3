-- What was carried out of a plan is what the rules make of the event.
use Prim.Native.Nat.{ℕ}
use mathlib.Core.Path.{◌≡◌, sym, subst}
use mathlib.Core.Bool.{Bool}
use mathlib.Core.List.{List}
use native.Mathlib.Nat.{le_trans}
use Rattle.rules.specs.Record.{State, depth, stored}
use Rattle.rules.specs.Clocks.{Play}
use Rattle.rules.specs.Flags.{is_full}
use Rattle.rules.specs.Place.{place}
use Rattle.rules.specs.Refusals.{refusal}
use Rattle.rules.specs.Laws.Refusals.{Ordinary}
use Rattle.rules.specs.Step.{played}
use Rattle.rules.proofs.Refusals.{refusal_stands}
use Rattle.rules.specs.Told.{Told}
use Rattle.record.specs.Capped.{capped_board}
use Rattle.record.proofs.Depths.{depth_told}
use Rattle.moves.specs.declared.Played.{Played}
use Rattle.channels.specs.Serving.{Sober}
use Rattle.moves.specs.Does.{Does, ring_values}
use Rattle.plans.specs.declared.Act.{Act}
use Rattle.plans.specs.declared.Act.TheVariants.{Nothing, Empties, Clocks, Loads}
use Rattle.plans.specs.declared.Plan.{Plan}
use Rattle.plans.specs.Parts.{carried, MovesOrStores}
use Rattle.plans.specs.Plan.{planned}
use Rattle.plans.proofs.Laws.{plan_plays, plan_ordinary, plan_within}
use Rattle.board.specs.Types.{Core, Ring, Event}

-- ---- A plan that moves a value or stores one

pub moves_ordinary : (c : Core) (e : Event) {p : Plan} → Told (planned c e) p → MovesOrStores p.act → Ordinary e
moves_ordinary c e w k = plan_ordinary c e (rw w.told at k)

pub moves_sober : (c : Core) (e : Event) {p : Plan} → Told (planned c e) p → MovesOrStores p.act → Sober c → Sober p.core
moves_sober c e w k s =
    let h = plan_within c e (rw w.told at k) in
    rw w.told (record { mask = rw h.mask s.mask; cursor = le_trans h.cursor s.cursor })

-- ---- Any plan

-- an act that moves nothing and stores nothing does not ask for the depth
any_depth : (a : Act) (c : Core) (full : Bool) (d d' : ℕ) (ring : Ring) (m : List ℕ) (r : Played) (m' : List ℕ) → (MovesOrStores a → d ≡ d')
    → Does d (carried a c (ring_values d ring m) full) ring m r m' → Does d' (carried a c (ring_values d' ring m) full) ring m r m'
unfolding carried MovesOrStores place
any_depth Nothing c full d d' ring m r m' e h = record { core = h.core; moved = h.moved; fate = h.fate; ring = h.ring; memory = h.memory }
any_depth Empties c full d d' ring m r m' e h = record { core = h.core; moved = h.moved; fate = h.fate; ring = h.ring; memory = h.memory }
any_depth Clocks c full d d' ring m r m' e h = subst (λ (x : ℕ). Does x (carried Clocks c (ring_values x ring m) full) ring m r m') (e tt) h
any_depth (Loads v) c full d d' ring m r m' e h = subst (λ (x : ℕ). Does x (carried (Loads v) c (ring_values x ring m) full) ring m r m') (e tt) h

pub planned_does : (s : State) (e : Event) (p : Plan) (d : ℕ) (r : Played) (m' : List ℕ) → refusal s e ≡ 0
    → Told (planned s.board.core e) p → Told (depth (capped_board s.board)) d
    → Does d (carried p.act p.core (ring_values d s.board.ring s.memory) (is_full s.board.size s.board.ring.count)) s.board.ring s.memory r m'
    → Does (depth s.board) (played s e) s.board.ring s.memory r m'
unfolding stored
planned_does s e p d r m' z w t h =
    let full = is_full s.board.size s.board.ring.count in
    subst (λ (q : Play). Does (depth s.board) q s.board.ring s.memory r m') (sym (rw w.told (plan_plays s.board.core e (stored s) full)))
    (any_depth p.act p.core full d (depth s.board) s.board.ring s.memory r m'
    (λ k. depth_told s.board d t (refusal_stands s e (moves_ordinary s.board.core e w k) z).sound.fitted) h)
