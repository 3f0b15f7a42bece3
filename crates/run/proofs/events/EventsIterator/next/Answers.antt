-- The head of the list, and its tail.
use mathlib.Core.Path.{sym, ap, subst, refl, ◌∙◌}
use Prim.Native.Nat.{◌≤◌}
use native.Mathlib.Omega.{arith}
use lib.ListN.{length}
use Rattle.std.specs.Prelude.{Ok, Option, IfSome, Result}
use Rattle.rules.specs.declared.Event.{Event}
use Rattle.file_rules.specs.declared.FileError.{FileError}
use Rattle.file_rules.specs.Item.{File, Refused}
use Rattle.run.specs.declared.Cursor.{Cursor}
use Rattle.run.specs.Ahead.{ahead_of}
use Rattle.run.specs.Items.{left}
use Rattle.run.proofs.Passing.{left_on, left_over}
use Rattle.run.proofs.events.EventsIterator.next.Goals as goal

pub invariant_of-self : goal.invariant_of-self
invariant_of-self c =
    let it = c.self.inside in
    let within = subst (λ (x : Option Cursor). IfSome x (λ y. y.place ≤ length it.file.now)) c.in_ok-c.was c.self.invariant in
    let w = c.in-Ok-Some in
    (left_on it.file.now c.in_ok-c.c _ _ within (sym c.next.ensures.told ∙ ap ahead_of (w.is ∙ ap Ok w.field-0-is))).1

pub returns-in-Ok-Some-clause-steps : goal.returns-in-Ok-Some-clause-steps
returns-in-Ok-Some-clause-steps c =
    let it = c.self.inside in
    let within = subst (λ (x : Option Cursor). IfSome x (λ y. y.place ≤ length it.file.now)) c.in_ok-c.was c.self.invariant in
    let w = c.in-Ok-Some in
    sym c.self.view_is
    ∙ ap (left it.file.now) c.in_ok-c.was
    ∙ (left_on it.file.now c.in_ok-c.c _ _ within (sym c.next.ensures.told ∙ ap ahead_of (w.is ∙ ap Ok w.field-0-is))).0

pub returns-in-Ok-Some-clause-goes : goal.returns-in-Ok-Some-clause-goes
returns-in-Ok-Some-clause-goes c =
    let fewer = ap (length {A = Result Event FileError}) (returns-in-Ok-Some-clause-steps c) in
    record { on = λ _. (tt, tt, omega (arith, fewer)); keeps = tt; rests = λ _. tt }

pub returns-in-Ok-None-clause-steps : goal.returns-in-Ok-None-clause-steps
returns-in-Ok-None-clause-steps c =
    let it = c.self.inside in
    let w = c.in-Ok-None in (
      sym c.self.view_is
          ∙ ap (left it.file.now) c.in_ok-c.was
          ∙ left_over it.file.now c.in_ok-c.c File (sym c.next.ensures.told ∙ ap ahead_of (w.is ∙ ap Ok w.field-0-is)),
      refl,
    )

pub returns-in-Err-clause-steps : goal.returns-in-Err-clause-steps
returns-in-Err-clause-steps c =
    let it = c.self.inside in
    let x = c.in-Err.x in
    sym c.self.view_is
    ∙ ap (left it.file.now) c.in_ok-c.was
    ∙ left_over it.file.now c.in_ok-c.c (Refused x.fault x.place) (sym c.next.ensures.told ∙ ap ahead_of c.in-Err.is)

pub returns-in-Err-clause-goes : goal.returns-in-Err-clause-goes
returns-in-Err-clause-goes c =
    let fewer = ap (length {A = Result Event FileError}) (returns-in-Err-clause-steps c) in
    record { on = λ _. (tt, tt, omega (arith, fewer)); keeps = tt; rests = λ _. tt }
