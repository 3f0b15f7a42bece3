-- Which event it is goes by the kind's number.
use Prim.Native.Nat.{ℕ}
use mathlib.Core.Path.{◌≡◌, refl}
use Rattle.rules.specs.declared.Signal.{Signal}
use Rattle.rules.specs.declared.Settings.{Settings}
use Rattle.rules.specs.declared.Signal.TheVariants.{Tick, Outside, Trigger, Passed, Failed, Settled}
use Rattle.file_rules.specs.Bytes.{signal_kind}
use Rattle.file_rules.specs.File.{signal_of, event_of}
use Rattle.bridge.specs.Types.{signal}
use Rattle.bridge.proofs.events.event_of.Goals as goal

signalled : (x : Signal) (o v : ℕ) (s : Settings) → signal x ≡ event_of (signal_kind x) o v s
unfolding event_of signal_of
signalled Tick o v s = refl
signalled Outside o v s = refl
signalled Trigger o v s = refl
signalled Passed o v s = refl
signalled Failed o v s = refl
signalled Settled o v s = refl

pub returns-in-PowerUp : goal.returns-in-PowerUp
unfolding event_of
returns-in-PowerUp c = let e = rw c.in-PowerUp.is at c.requires in rw (← e) refl

pub returns-in-Write : goal.returns-in-Write
unfolding event_of
returns-in-Write c = let e = rw c.in-Write.is at c.requires in rw (← e) refl

pub returns-in-Read : goal.returns-in-Read
unfolding event_of
returns-in-Read c = let e = rw c.in-Read.is at c.requires in rw (← e) refl

pub returns-in-Signal : goal.returns-in-Signal
returns-in-Signal c = let e = rw c.in-Signal.is at c.requires in rw (← e) (signalled _ _ _ _)
