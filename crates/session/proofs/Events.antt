-- The event that the bytes of a record say, by its kind.
use Prim.Native.Nat.{ℕ, ◌+◌}
use mathlib.Core.Path.{◌≡◌, refl, sym, ap, ◌∙◌}
use mathlib.Core.List.{List}
use Rattle.rules.specs.declared.Settings.{Settings}
use Rattle.rules.specs.declared.Event.{Event}
use Rattle.rules.specs.declared.Event.TheVariants.{PowerUp as power_up, Write as write, Read as read, Signal as signal}
use Rattle.rules.specs.declared.Signal.TheVariants.{Tick, Outside, Trigger, Passed, Failed, Settled}
use Rattle.file_rules.specs.File.{byte_at, quad_at, settings_at, signal_of, event_at, event_of}
use Rattle.kinds.specs.declared.Kind.{Kind}
use Rattle.kinds.specs.declared.Kind.TheVariants.{PowerUp, Write, Read, Signal}
use Rattle.kinds.specs.Numbers.{kind_number}

abbrev pub of_kind : Kind → ℕ → ℕ → Settings → Event
of_kind PowerUp o v x = power_up x
of_kind Write o v x = write o v
of_kind Read o v x = read o
of_kind (Signal s) o v x = signal s

told : (k : Kind) (o v : ℕ) (x : Settings) → event_of (kind_number k) o v x ≡ of_kind k o v x
unfolding event_of signal_of
told PowerUp o v x = refl
told Write o v x = refl
told Read o v x = refl
told (Signal Tick) o v x = refl
told (Signal Outside) o v x = refl
told (Signal Trigger) o v x = refl
told (Signal Passed) o v x = refl
told (Signal Failed) o v x = refl
told (Signal Settled) o v x = refl

pub event_told : (s : List ℕ) (at : ℕ) (k : Kind) → kind_number k ≡ byte_at s at
    → event_at s at ≡ of_kind k (byte_at s (at + 1)) (quad_at s (at + 2)) (settings_at s (at + 1))
unfolding event_at
event_told s at k e =
    let o = byte_at s (at + 1) in
    let v = quad_at s (at + 2) in
    let x = settings_at s (at + 1) in
    sym (ap (λ (n : ℕ). event_of n o v x) e) ∙ told k o v x
