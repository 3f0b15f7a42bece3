-- Which entries of the sample memory an event may change, and where the stored values stand.
use Prim.Native.Nat.{ℕ, ◌+◌, ◌-◌, ◌≤◌}
use mathlib.Core.Path.{◌≡◌, refl, sym, ap, ◌∙◌}
use mathlib.Core.Logic.{inl}
use mathlib.Core.List.{List}
use native.Mathlib.Omega.{arith}
use lib.ListN.{length, get_or, drop}
use lib.Seq.{get_or-drop}
use Rattle.laws.specs.Types.{Settings, Event, power_up, write, read, signal}
use Rattle.rules.specs.Record.{State, depth, stored}
use Rattle.rules.specs.Play.{play}
use Rattle.rules.specs.Place.{place}
use Rattle.rules.specs.Refusals.{refusal}
use Rattle.rules.specs.Step.{Outcome, refused, done, step}
use Rattle.rules.specs.Laws.Refusals.{Ordinary}
use Rattle.laws.specs.Places.{Stored-at, Stored-length, MemoryKept, Memory-kept, Power-up-memory}
use Rattle.laws.proofs.Places.{get_d_values}
use Rattle.rules.proofs.Steps.{step_cases, stored_length}
use Rattle.laws.proofs.Kept.{event_kept, stands_fit}
use Rattle.rules.proofs.Refusals.{refusal_stands}

-- ---- The stored values

pub stored_at : Stored-at
unfolding stored
stored_at s i st h = get_d_values (depth s.board) s.board.ring.first s.board.ring.count i s.memory st.sound.first (rw stored_length at h)

pub length_stored : Stored-length
length_stored s = stored_length s

-- ---- The entries

kept_nothing : (s : State) (o : Outcome) → o.state.memory ≡ s.memory → MemoryKept s o
kept_nothing s o e =
    record {
      long = ap length e;
      above = λ i h. ap (λ (m : List ℕ). get_or m i 0) e;
      written = λ i. inl (ap (λ (m : List ℕ). get_or m i 0) e);
    }

same_above : (d i : ℕ) (m m' : List ℕ) → drop d m' ≡ drop d m → d ≤ i → get_or m' i 0 ≡ get_or m i 0
same_above d i m m' e h =
    let z : d + (i - d) ≡ i = omega arith in
    ap (λ (x : ℕ). get_or m' x 0) (sym z)
    ∙ sym (get_or-drop d m' (i - d) 0)
    ∙ ap (λ (l : List ℕ). get_or l (i - d) 0) e
    ∙ get_or-drop d m (i - d) 0
    ∙ ap (λ (x : ℕ). get_or m x 0) z

done_memory : (s : State) (e : Event) → Ordinary e → refusal s e ≡ 0 → MemoryKept s (done s e)
done_memory s e o h =
    let k = (event_kept s e o (stands_fit s (refusal_stands s e o h))).same in
    record { long = k.long; above = λ i. same_above (depth s.board) i _ _ k.above; written = k.written }

up_memory : (s : State) (x : Settings) → (done s (power_up x)).state.memory ≡ s.memory
unfolding done play place
up_memory s x = refl

pub power_up_memory : Power-up-memory
unfolding refused
power_up_memory s x = step_cases (λ o. o.state.memory ≡ s.memory) s (power_up x) (λ _. up_memory s x) (λ _. refl)

ordinary_kept : (s : State) (e : Event) → Ordinary e → MemoryKept s (step s e)
unfolding refused
ordinary_kept s e o = step_cases (MemoryKept s) s e (done_memory s e o) (λ _. kept_nothing s _ refl)

pub memory_kept : Memory-kept
memory_kept s (power_up x) = kept_nothing s _ (power_up_memory s x)
memory_kept s (write a v) = ordinary_kept s (write a v) tt
memory_kept s (read a) = ordinary_kept s (read a) tt
memory_kept s (signal x) = ordinary_kept s (signal x) tt
