-- One tick on a board that is ready: what it moves and where to, in simultaneous and in sequential mode.
use Prim.Native.Nat.{ℕ, ◌≤◌, ◌<◌}
use mathlib.Core.Path.{◌≡◌, refl, sym, ap, subst, ◌∙◌}
use mathlib.Core.Logic.{◌≢◌, inl}
use mathlib.Core.Bool.{Bool, true, false, false≢true}
use mathlib.Core.List.{List, [], ◌∷◌, ◌++◌}
use native.Mathlib.Omega.{arith}
use lib.ListN.{length, get_or, drop, set, length-set}
use Rattle.rules.specs.declared.Event.TheVariants.{Signal as signal}
use Rattle.rules.specs.declared.Signal.TheVariants.{Tick as tick}
use Rattle.rules.specs.declared.Core.{Core}
use Rattle.rules.specs.Bits.{bit, active_from, head_or}
use Rattle.rules.specs.Record.{State}
use Rattle.rules.specs.Clocks.{next_channel, targets, laid, coded}
use Rattle.rules.specs.Step.{step}
use Rattle.rules.specs.Laws.Closed.{Closed}
use Rattle.rules.specs.Laws.Refused.{TickAccepted}
use Rattle.laws.specs.Moved.{group_size, ReadyToMove, Moves, Coding, level_at}
use Rattle.laws.proofs.Moved.{clock_moves}
use Rattle.laws.proofs.Clocks.{clock_ran}
use Rattle.laws.proofs.Targets.{targets_group}
use Rattle.laws.proofs.Lasting.{stands_kept}
use Rattle.cut_rules.proofs.Passing.{tick_open}
use Rattle.cut_rules.proofs.TwoWrites.{ReadyToPlay, Playing}

-- the levels are as many as they were
laid_length : (binary : Bool) (levels ks vs : List ℕ) → length (laid binary levels ks vs) ≡ length levels
unfolding laid
laid_length binary levels [] vs = refl
laid_length binary levels (k ∷ ks) [] = refl
laid_length binary levels (k ∷ ks) (v ∷ vs) =
    laid_length binary (set levels k (coded binary v)) ks vs ∙ length-set levels k (coded binary v)

-- ---- A tick that moves

module _ (mask v : ℕ) (vs : List ℕ) (cursor : ℕ) (s : State) (p : Playing mask v vs cursor s) (some : mask ≢ 0)
    (enough : length (targets s.board.core) ≤ length vs) where
  abbrev c : Core
  c = s.board.core

  abbrev s' : State
  s' = (step s (signal tick)).state

  accepted : TickAccepted s.board
  accepted = record { enabled = p.ready.enabled; source = inl p.ready.generator; uncalibrating = p.ready.uncalibrating }

  pub group : length (targets c) ≡ group_size s.board
  group = targets_group s.board p.stands.sound

  moving : ReadyToMove s
  moving =
      record {
        mask = λ e. some (sym p.ready.mask_is ∙ e);
        burst = λ e. absurd (false≢true (sym p.ready.bursts ∙ e));
        enough = omega (arith, group, enough, ap length p.values);
      }

  pub tick_moves : Moves s (step s (signal tick))
  tick_moves = clock_moves s tick p.ready.twenty (tick_open s p.stands) accepted moving

  many : (step s (signal tick)).answer.moved ≡ length (targets c)
  many = tick_moves.whole ∙ sym group

  -- the board after it
  pub tick_playing : (n : ℕ) → s'.board.core.outputs.cursor ≡ n → Playing mask v (drop (length (targets c)) vs) n s'
  tick_playing n e =
      let m = tick_moves in
      let unclosed : ¬ Closed c = λ k. false≢true (sym p.ready.uncircled ∙ k.circular) in
      let r = clock_ran s tick (tick_open s p.stands) accepted moving in
      record {
        stands = stands_kept s (signal tick) p.stands;
        ready = record {
          bursts = ap (λ (y : Core). y.control.bursts) r.core ∙ p.ready.bursts;
          binary = ap (λ (y : Core). y.control.binary) r.core ∙ p.ready.binary;
          simultaneous = ap (λ (y : Core). y.control.simultaneous) r.core ∙ p.ready.simultaneous;
          enabled = ap (λ (y : Core). y.mode.enabled) r.core ∙ p.ready.enabled;
          generator = ap (λ (y : Core). y.mode.external) r.core ∙ p.ready.generator;
          uncircled = ap (λ (y : Core). y.mode.circular) r.core ∙ p.ready.uncircled;
          uncalibrating = ap (λ (y : Core). y.calibration.running) r.core ∙ p.ready.uncalibrating;
          mask_is = ap (λ (y : Core). y.outputs.mask) r.core ∙ p.ready.mask_is;
          cursor_is = e;
          twenty = ap (λ (y : Core). length y.outputs.levels) r.core ∙ laid_length _ _ _ _ ∙ p.ready.twenty;
        };
        values = m.discarded unclosed ∙ (λ i. drop (many i) (p.values i));
      }

  -- the i-th target gets the coding of the i-th value
  pub tick_given : (i : ℕ) → i < length (targets c) → Coding (bit 4 v) (get_or vs i 0) (level_at s' (get_or (targets c) i 0))
  tick_given i l =
      let m = tick_moves in
      subst (λ (b : Bool). Coding b (get_or vs i 0) (level_at s' (get_or (targets c) i 0))) p.ready.binary
      (subst (λ (ws : List ℕ). Coding c.control.binary (get_or ws i 0) (level_at s' (get_or (targets c) i 0))) p.values
      (m.given i (omega (arith, many, l))))

-- ---- The targets

pub play_targets : (c : Core) (mask v n : ℕ) → ReadyToPlay mask v n c → bit 7 v ≡ true → targets c ≡ active_from 0 mask
unfolding targets
play_targets c mask v n r t = rw (r.simultaneous, t) (ap (active_from 0) r.mask_is)

pub sequential_targets : (c : Core) (mask v n : ℕ) → ReadyToPlay mask v n c → bit 7 v ≡ false
    → targets c ≡ head_or 0 (active_from n mask ++ active_from 0 mask) ∷ []
unfolding targets next_channel
sequential_targets c mask v n r t =
    rw (r.simultaneous, t) (λ i. head_or 0 (active_from (r.cursor_is i) (r.mask_is i) ++ active_from 0 (r.mask_is i)) ∷ [])
