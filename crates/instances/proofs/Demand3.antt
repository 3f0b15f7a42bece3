-- What demand 3 tells of the second runs: the first ones are computed, and each clause is carried over.
use Prim.Native.Nat.{ℕ}
use mathlib.Core.Path.{◌≡◌, refl, sym, ap, ◌∙◌}
use mathlib.Core.Logic.{◌≢◌}
use mathlib.Core.Bool.{true, false, false≢true}
use mathlib.Core.List.{List, [], ◌∷◌, map}
use native.Mathlib.Omega.{arith}
use lib.ListN.{take}
use Rattle.rules.specs.Types.{Answer}
use Rattle.rules.specs.declared.Core.{Core}
use Rattle.rules.specs.declared.Event.{Event}
use Rattle.rules.specs.declared.Event.TheVariants.{PowerUp as power_up}
use Rattle.rules.specs.Record.{State}
use Rattle.rules.specs.Step.{Outcome, step}
use Rattle.rules.specs.Session.{after}
use Rattle.rules.specs.Bench.{load}
use Rattle.demand3.specs.Demand3.{deeper, NothingLost, loses_nothing, Alike, SameAnswers, none, next, Agree, PowerUpsAccepted, NoQuarters}
use Rattle.demand3.specs.Examples.{settings, first_run, second_run, first_start, second_start, emptying, shut_out, refusing, again, nine_loads, too_small, large_enough}
use Rattle.instances.specs.Demand3.{Scene, scene_of, holding, answers_of, eight_held, ScriptSeen, ClosedSeen, Demand3-used, Request-used, Closed-used, damaged, turning_board, mended, restarted, From-any-used, As-ordered-used, Refused-used, Lossless-used}
use Rattle.demand3.proofs.Lossless.{lossless_test, lossless_take}
use Rattle.demand3.proofs.Demand3.{demand3, demand3_from_any, demand3_as_ordered, demand3_alike, all_accepted_lem, lower_take, accepted_take, quarters_take}
use Rattle.demand3.proofs.Premises.{accepted_all, lossless_all, quarters_none, tests_open}
use Rattle.demand3.proofs.Examples.{sames, demand3_met, request_met, closed_met, refused_met, alike_matters, loss_matters}

-- ---- Carried over

-- a scene of the first state is one of the second
scene_too : (s s' : State) {x : Scene} → Alike s s' → scene_of s ≡ x → scene_of s' ≡ x
scene_too s s' a h =
    let same : scene_of s ≡ scene_of s' = λ i. record {
      levels = a.levels i;
      values = a.values i;
      burst = a.burst i;
      circular = a.circular i;
      load = a.load i;
      closed = a.ready i;
    } in
    sym same ∙ h

-- one number of each outcome's answer
numbers_of : (Answer → ℕ) → List Outcome → List ℕ
numbers_of f os = map (λ o. f o.answer) os

answers_same : {os os' : List Outcome} → SameAnswers os os'
    → (numbers_of (λ a. a.refusal) os ≡ numbers_of (λ a. a.refusal) os')
    × (numbers_of (λ a. a.moved) os ≡ numbers_of (λ a. a.moved) os')
    × (numbers_of (λ a. a.fate) os ≡ numbers_of (λ a. a.fate) os')
unfolding numbers_of
answers_same none = (refl, refl, refl)
answers_same (next r m f h) =
    let t = answers_same h in
    (λ i. r i ∷ t.0 i, λ i. m i ∷ t.1 i, λ i. f i ∷ t.2 i)

-- ---- What is computed: of the first runs, and of premises

first_played : ScriptSeen first_start first_run
unfolding tests_open
first_played = record { bursting = refl; turning = refl; opened = refl; end = refl; refusals = refl; moved = refl; fates = refl }

first_shut : ClosedSeen first_start (shut_out 0 0)
unfolding tests_open
first_shut = record { scene = refl; fates = refl; overflow = refl }

-- a run that loses nothing to a full buffer, and the scene at its end
record Plain (s : State) (es : List Event) (x : Scene) : Type 0 where
  pub lossless : NothingLost s es
  pub scene : scene_of (after s es) ≡ x

small_plain : Plain first_start (take 9 too_small) eight_held
unfolding tests_open
small_plain = record { lossless = lossless_all _ _ refl; scene = refl }

again_plain : Plain first_start (take 2 (again 1)) (holding 0x8000 (1 ∷ []))
unfolding tests_open
again_plain = record { lossless = lossless_all _ _ refl; scene = refl }

refusing_plain : Plain first_start (refusing 1) (holding 0x8000 (1 ∷ 2 ∷ []))
unfolding tests_open
refusing_plain = record { lossless = lossless_all _ _ refl; scene = refl }

mended_plain : Plain mended (take 8 nine_loads) eight_held
unfolding tests_open
mended_plain = record { lossless = lossless_all _ _ refl; scene = refl }

refusing_answers : answers_of (λ a. a.refusal) first_start (refusing 1) ≡ 0 ∷ 0 ∷ 2 ∷ 0 ∷ []
unfolding tests_open
refusing_answers = refl

again_accepted : PowerUpsAccepted first_start (take 2 (again 1)) × PowerUpsAccepted second_start (take 2 (again 9))
unfolding tests_open
again_accepted = (accepted_all _ _ refl, accepted_all _ _ refl)

powered_up_lem : ((step damaged (power_up (settings 0))).answer.refusal ≡ 0) × ((step turning_board (power_up (settings 1))).answer.refusal ≡ 0)
unfolding tests_open
powered_up_lem = (refl, refl)

loads_accepted : PowerUpsAccepted mended (take 8 nine_loads) × PowerUpsAccepted restarted (take 8 nine_loads)
unfolding tests_open
loads_accepted = (accepted_all _ _ refl, accepted_all _ _ refl)

mended_asks : NoQuarters mended (take 8 nine_loads) × ((after mended (take 8 nine_loads)).board.request ≡ true)
unfolding tests_open
mended_asks = (quarters_none _ _ refl, refl)

small_loses : loses_nothing first_start too_small ≡ false
unfolding tests_open
small_loses = refl

-- ---- The demand

small_accepted : PowerUpsAccepted first_start (take 9 too_small) × PowerUpsAccepted second_start (take 9 large_enough)
small_accepted = (accepted_take 9 _ _ loss_matters.accepted, accepted_take 9 _ _ loss_matters.accepted')

-- of first_run and second_run, after n events
told : (n : ℕ) → Agree first_start (take n first_run) second_start (take n second_run)
told n =
    demand3 _ _ first_run second_run demand3_met.lower n (accepted_take n _ _ demand3_met.accepted) (accepted_take n _ _ demand3_met.accepted')
    (lossless_take n _ _ demand3_met.lossless)

told_scene : (n : ℕ) {x : Scene} → scene_of (after first_start (take n first_run)) ≡ x → scene_of (after second_start (take n second_run)) ≡ x
told_scene n = scene_too _ _ (told n).alike

second_played : ScriptSeen second_start second_run
unfolding numbers_of
second_played =
    let same = answers_same (told 31).answers in
    record {
      bursting = told_scene 14 first_played.bursting;
      turning = told_scene 21 first_played.turning;
      opened = told_scene 26 first_played.opened;
      end = told_scene 31 first_played.end;
      refusals = sym same.0 ∙ first_played.refusals;
      moved = sym same.1 ∙ first_played.moved;
      fates = sym same.2 ∙ first_played.fates;
    }

pub demand3_used : Demand3-used
demand3_used =
    let loss = demand3 _ _ too_small large_enough loss_matters.lower 9 small_accepted.0 small_accepted.1 small_plain.lossless in
    let refusal = demand3 _ _ (again 1) (again 9) alike_matters.lower 2 again_accepted.0 again_accepted.1 again_plain.lossless in
    record {
      first = first_played;
      second = second_played;
      lossless = (told 31).lossless;
      core = (told 21).core;
      before_loss = scene_too _ _ loss.alike small_plain.scene;
      before_refusal = scene_too _ _ refusal.alike again_plain.scene;
    }

emptying_told : (n : ℕ) → (after first_start (take n (emptying 1))).board.request ≡ (after second_start (take n (emptying 3))).board.request
emptying_told n =
    (demand3 _ _ (emptying 1) (emptying 3) request_met.lower n
    (accepted_take n _ _ request_met.accepted) (accepted_take n _ _ request_met.accepted') (lossless_take n _ _ request_met.lossless)
    ).request (quarters_take n _ _ request_met.unselected)

pub request_used : Request-used
request_used =
    record {
      before = sym (emptying_told 5) ∙ request_met.before;
      set = sym (emptying_told 6) ∙ request_met.set;
      cleared = sym (emptying_told 7) ∙ request_met.cleared;
    }

pub closed_used : Closed-used
unfolding numbers_of
closed_used =
    let told = demand3 _ _ (shut_out 0 0) (shut_out 1 15) closed_met.lower 9 closed_met.accepted closed_met.accepted' closed_met.lossless in
    record {
      first = first_shut;
      second = record {
        scene = scene_too _ _ told.alike first_shut.scene;
        fates = sym (answers_same told.answers).2 ∙ first_shut.fates;
        overflow = sym (ap (λ (c : Core). c.lost.closed) told.core) ∙ first_shut.overflow;
      };
    }

-- ---- From any two records

pub from_any_used : From-any-used
from_any_used =
    let told = demand3_from_any damaged turning_board (settings 0) (settings 1) nine_loads nine_loads
    (deeper (settings 0) 1 (omega arith)) powered_up_lem.0 powered_up_lem.1
    (sames nine_loads) 8 loads_accepted.0 loads_accepted.1 mended_plain.lossless in
    record {
      agree = told;
      scene = scene_too _ _ told.alike mended_plain.scene;
      request = sym (told.request mended_asks.0) ∙ mended_asks.1;
    }

-- ---- In the order's own words

pub as_ordered_used : As-ordered-used
as_ordered_used =
    let told = demand3_as_ordered _ _ too_small large_enough loss_matters.lower loss_matters.accepted loss_matters.accepted' 9
    small_plain.lossless in
    let asked = demand3_as_ordered _ _ (emptying 1) (emptying 3) request_met.lower request_met.accepted request_met.accepted' 6
    (lossless_take 6 _ _ request_met.lossless) in
    record {
      lossless = told.0;
      scene = scene_too _ _ told.1 small_plain.scene;
      request = sym (asked.2 request_met.unselected) ∙ request_met.set;
    }

-- ---- Power-ups that are refused

pub refused_used : Refused-used
unfolding numbers_of
refused_used =
    let told = demand3_alike _ _ (refusing 1) (refusing 3) refused_met.lower 4 refused_met.alike refused_met.lossless in
    let loss = demand3_alike _ _ too_small large_enough loss_matters.lower 9
    (all_accepted_lem _ _ (lower_take 9 loss_matters.lower) small_accepted.0 small_accepted.1) small_plain.lossless in
    let refusal = demand3_alike _ _ (again 1) (again 9) alike_matters.lower 2
    (all_accepted_lem _ _ (lower_take 2 alike_matters.lower) again_accepted.0 again_accepted.1) again_plain.lossless in
    record {
      agree = told;
      scene = scene_too _ _ told.alike refusing_plain.scene;
      refusals = sym (answers_same told.answers).0 ∙ refusing_answers;
      before_loss = scene_too _ _ loss.alike small_plain.scene;
      before_refusal = scene_too _ _ refusal.alike again_plain.scene;
    }

-- ---- The test

shut_passed : (step (after first_start (take 5 (shut_out 0 0))) (load 3)).answer.fate ≢ 2
unfolding NothingLost tests_open
shut_passed = ((lossless_test first_start (shut_out 0 0)).0 refl).1.1.1.1.1.0

pub lossless_used : Lossless-used
lossless_used =
    record {
      passed = shut_passed;
      passes = (lossless_test _ _).1 (told 31).lossless;
      fails = λ h. false≢true (sym small_loses ∙ (lossless_test _ _).1 h);
    }
