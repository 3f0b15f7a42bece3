-- Demand 3: a session that plays without loss plays the same on any larger buffer.
use Prim.Native.Nat.{ℕ, zero, suc}
use mathlib.Core.Path.{◌≡◌, refl, sym, ap, ◌∙◌}
use mathlib.Core.Logic.{◌≢◌}
use mathlib.Core.Bool.{false≢true}
use mathlib.Core.List.{List, [], ◌∷◌}
use native.Mathlib.Nat.{le_refl}
use native.Mathlib.Omega.{arith}
use lib.ListN.{take}
use Rattle.rules.specs.declared.Core.{Core}
use Rattle.rules.specs.declared.Event.{Event}
use Rattle.rules.specs.declared.Event.TheVariants.{PowerUp as power_up, Write as write, Read as read, Signal as signal}
use Rattle.rules.specs.Bits.{all}
use Rattle.rules.specs.Record.{State, values, stored, sound_core, unpowered, start}
use Rattle.rules.specs.Clocks.{closed}
use Rattle.rules.specs.Step.{Outcome, step}
use Rattle.rules.specs.Session.{outcomes, after}
use Rattle.rules.specs.Laws.Runs.{stepping}
use Rattle.basics.specs.TwoRuns.{Along, end, on, Keeps, Tells}
use Rattle.demand3.specs.Demand3.{NeverLower, same, deeper, larger, AllNeverLower, none, next, PowerUpAccepted, PowerUpsAccepted, NothingLost, NoQuarters, Alike, SameAnswers, Agree, Demand3, Demand3-from-any, Demand3-as-ordered, PowerUpAlike, PowerUpsAlike, Demand3-alike}
use Rattle.demand3.specs.TwoBoards.{Related, Together}
use Rattle.basics.proofs.TwoRuns.{runs_together}
use Rattle.demand3.proofs.TwoRuns.{event_together, up_request, power_up_together}

-- ---- Two runs from related states

-- what is asked of two events
record Asked (s : State) (e : Event) (s' : State) (e' : Event) : Type 0 where
  pub lower : NeverLower e e'
  pub alike : PowerUpAlike e (step s e) (step s' e')
  pub lossless : (step s e).answer.fate ≢ 2

asked : (s s' : State) {es es' : List Event} → AllNeverLower es es' → PowerUpsAlike s es s' es' → NothingLost s es
    → Along stepping stepping Asked s es s' es'
unfolding PowerUpsAlike NothingLost
asked s s' none a l = end
asked s s' (next {e} {e'} w ws) a l =
    on (record { lower = w; alike = a.0; lossless = l.0 }) (asked (step s e).state (step s' e').state ws a.1 l.1)

keeps : Keeps stepping stepping Related Asked Together
keeps =
    record {
      event = λ s e s' e' r p. event_together s s' e e' p.lower r p.alike p.lossless;
      states = λ s s' o o' t. t.related;
    }

-- what is told of the runs: the order's clauses, but for the request, which asks that it was equal at the start
record Both (s : State) (es : List Event) (s' : State) (es' : List Event) : Type 0 where
  pub lossless : NothingLost s' es'
  pub related : Related (after s es) (after s' es')
  pub answers : SameAnswers (outcomes s es) (outcomes s' es')
  pub request : NoQuarters s es → s.board.request ≡ s'.board.request → (after s es).board.request ≡ (after s' es').board.request

tells : Tells stepping stepping Related Asked Together Both
unfolding outcomes after NothingLost NoQuarters
tells =
    record {
      none = λ s s' r. record { lossless = tt; related = r; answers = none; request = λ q h. h };
      first = λ s e es s' e' es' p t u. record {
        lossless = (λ h. p.lossless (omega (arith, h, t.fate)), u.lossless);
        related = u.related;
        answers = next t.refusal t.moved t.fate u.answers;
        request = λ q h. u.request q.1 (t.request q.0 h);
      };
    }

related_alike : (s s' : State) → Related s s' → Alike s s'
related_alike s s' r =
    record {
      levels = ap (λ (c : Core). c.outputs.levels) r.core;
      values = r.lists;
      burst = ap (λ (c : Core). c.burst) r.core;
      circular = ap (λ (c : Core). c.mode.circular) r.core;
      load = ap (λ (c : Core). c.load) r.core;
      ready = ap closed r.core;
    }

agree : (s s' : State) {es es' : List Event} → AllNeverLower es es' → Related s s' → s.board.request ≡ s'.board.request
    → PowerUpsAlike s es s' es' → NothingLost s es → Agree s es s' es'
agree s s' w r q a l =
    let b = (runs_together _ _ _ _ _ _ stepping stepping Related Asked Together Both keeps tells s _ s' _ r (asked s s' w a l)).0 in
    record {
      lossless = b.lossless;
      alike = related_alike _ _ b.related;
      core = b.related.core;
      answers = b.answers;
      request = λ n. b.request n q;
    }

-- ---- "every power-up accepted in both": so each gets the same number, 0

one_accepted : {e e' : Event} (o o' : Outcome) → NeverLower e e' → PowerUpAccepted e o → PowerUpAccepted e' o' → PowerUpAlike e o o'
one_accepted o o' (deeper x d h) a a' = a ∙ sym a'
one_accepted o o' (larger v v' h l) a a' = tt
one_accepted o o' (same (power_up x)) a a' = a ∙ sym a'
one_accepted o o' (same (write b v)) a a' = tt
one_accepted o o' (same (read b)) a a' = tt
one_accepted o o' (same (signal x)) a a' = tt

pub all_accepted_lem : (s s' : State) {es es' : List Event} → AllNeverLower es es' → PowerUpsAccepted s es → PowerUpsAccepted s' es' → PowerUpsAlike s es s' es'
unfolding PowerUpsAccepted PowerUpsAlike
all_accepted_lem s s' none a a' = tt
all_accepted_lem s s' (next {e = e} {e' = e'} {es = es} {es' = es'} w ws) a a' =
    (one_accepted _ _ w a.0 a'.0, all_accepted_lem (step s e).state (step s' e').state ws a.1 a'.1)

-- ---- Beginnings

pub lower_take : (n : ℕ) {es es' : List Event} → AllNeverLower es es' → AllNeverLower (take n es) (take n es')
lower_take zero w = none
lower_take (suc n) none = none
lower_take (suc n) (next w ws) = next w (lower_take n ws)

pub accepted_take : (n : ℕ) (s : State) (es : List Event) → PowerUpsAccepted s es → PowerUpsAccepted s (take n es)
unfolding PowerUpsAccepted
accepted_take zero s es a = tt
accepted_take (suc n) s [] a = tt
accepted_take (suc n) s (e ∷ es) a = (a.0, accepted_take n _ es a.1)

pub quarters_take : (n : ℕ) (s : State) (es : List Event) → NoQuarters s es → NoQuarters s (take n es)
unfolding NoQuarters
quarters_take zero s [] q = q
quarters_take zero s (e ∷ es) q = q.0
quarters_take (suc n) s [] q = q
quarters_take (suc n) s (e ∷ es) q = (q.0, quarters_take n _ es q.1)

-- ---- The demand

-- an unpowered record is not sound, and holds nothing
unpowered_related : (m m' : List ℕ) → Related (start m) (start m')
unfolding unpowered sound_core all stored values
unpowered_related m m' =
    record {
      core = refl;
      size = record { fitted = le_refl 0; code = le_refl 0 };
      lists = refl;
      fit = λ e. absurd (false≢true e);
      fit' = λ e. absurd (false≢true e);
    }

pub demand3_alike : Demand3-alike
demand3_alike m m' es es' w n a l = agree (start m) (start m') (lower_take n w) (unpowered_related m m') refl a l

pub demand3 : Demand3
demand3 m m' es es' w n a a' l = demand3_alike m m' es es' w n (all_accepted_lem _ _ (lower_take n w) a a') l

pub demand3_from_any : Demand3-from-any
demand3_from_any s s' x x' es es' u a a' w n b b' l =
    let t = power_up_together s s' x x' u a a' in
    agree _ _ (lower_take n w) t.related (up_request s x a ∙ sym (up_request s' x' a')) (all_accepted_lem _ _ (lower_take n w) b b') l

pub demand3_as_ordered : Demand3-as-ordered
demand3_as_ordered m m' es es' w a a' n l =
    let g = demand3 m m' es es' w n (accepted_take n (start m) es a) (accepted_take n (start m') es' a') l in
    (g.lossless, g.alike, λ q. g.request (quarters_take n (start m) es q))
