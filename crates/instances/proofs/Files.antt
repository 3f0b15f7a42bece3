-- The instances of the theorems on session files (specs/Instances): what is read, written and refused is what each theorem says there.
use Prim.Native.Nat.{ℕ, zero, suc, ◌+◌, ◌*◌, ◌≤◌, ◌<◌}
use mathlib.Core.Path.{◌≡◌, refl, sym, ap, ◌∙◌}
use mathlib.Core.Logic.{◌≢◌}
use mathlib.Core.Bool.{Bool, true, ◌&&◌}
use mathlib.Core.List.{List, [], ◌∷◌, ◌++◌}
use native.Mathlib.Omega.{arith}
use borrow.Author.Tests.{ltb-true}
use lib.Dec.{ltb, lit<, lit≤}
use lib.ListN.{length, replicate}
use lib.Seq.{slice}
use Rattle.rules.specs.Refusals.{first_of}
use Rattle.rules.specs.declared.Event.{Event}
use Rattle.rules.specs.declared.Event.TheVariants.{PowerUp, Write, Read, Signal}
use Rattle.rules.specs.declared.Signal.TheVariants.{Tick, Outside, Trigger, Passed, Failed, Settled}
use Rattle.rules.proofs.Choice.{and_both}
use Rattle.file_rules.specs.declared.Fault.TheVariants.{Version, Cut, Kind}
use Rattle.file_rules.specs.Item.{Refused}
use Rattle.file_rules.specs.Item.{Over}
use Rattle.file_rules.specs.File.{fault_number, byte_at, length_of, signal_of, event_of, event_at, whole_record, record_at, item_at, from, session}
use Rattle.file_rules.specs.Bytes.{records_of, file_of, Fits, AllFit, none, next}
use Rattle.file_rules.specs.Row.{row_of, field}
use Rattle.file_rules.specs.Laws.{Known, read, signal, ended, half_length, short_body, length_zero, unknown, length_wrong, event}
use Rattle.file_rules.specs.Laws.{ItemGiven, bad_version, first, later, Reached, opened, passed}
use Rattle.file_rules.specs.Laws.{FileGiven, not_opened, in_length, in_body, zero_length, unknown_kind as unknown_kind_at, wrong_length, done as all_read}
use Rattle.file_rules.specs.Laws.{every_kind}
use Rattle.file_rules.specs.Writing.{sixes, events_in, rows_of, widths, fit_widths, row_refusal, first_bad, write_refusal, end_place, output_after}
use Rattle.file_rules.specs.WritingLaws.{BadRow, unknown_kind, misfit, RowGiven, bad, good, WriteGiven, not_whole, bad_event, past_end, too_long, done}
use Rattle.file_rules.specs.WritingLaws.{Reread, Copied, scope_rows, tick_row, kind_of260, read_of256}
use Rattle.instances.specs.Files.{scope_events, scope_output, every_rows, Writing-met, Rows-met}
use Rattle.instances.specs.Files.{ten_behind, half_behind, short_read, cut_read, no_length, one_tick, Items-met, Files-met}
use Rattle.file_rules.proofs.WriteExamples.{scope_written}
use Rattle.file_rules.proofs.Lengths.{zero_unknown}
use Rattle.file_rules.proofs.Given.{item_exactly, item_grows}
use Rattle.file_rules.proofs.Sessions.{session_refused}
use Rattle.file_rules.proofs.Walk.{file_exactly}
use Rattle.file_rules.proofs.Written.{bytes_read, file_read, refused_events, row_read}
use Rattle.file_rules.proofs.Rewritten.{file_written}
use Rattle.file_rules.proofs.RowsGiven.{row_exactly, row_back}
use Rattle.file_rules.proofs.WritesGiven.{write_exactly}
use Rattle.file_rules.proofs.WriteRead.{write_refused, write_read, write_back}

-- ---- Bytes

-- all of them are below 256, by computation
unfoldable all_bytes : List ℕ → Bool
all_bytes [] = true
all_bytes (x ∷ xs) = ltb x 256 && all_bytes xs

bytes_below : (s : List ℕ) → all_bytes s ≡ true → (i : ℕ) → byte_at s i < 256
unfolding all_bytes
bytes_below [] h i = lit< tt
bytes_below (x ∷ xs) h zero = ltb-true x 256 (and_both (ltb x 256) (all_bytes xs) h).0
bytes_below (x ∷ xs) h (suc i) = bytes_below xs (and_both (ltb x 256) (all_bytes xs) h).1 i

-- ---- Writing

scope_read : Reread scope_events (replicate 52 0xEE) 2 51 scope_output
unfolding first_of length_of signal_of event_of records_of file_of sixes events_in widths fit_widths row_refusal first_bad write_refusal end_place
scope_read = write_read scope_rows (replicate 52 0xEE) 2 scope_written.refusal

none_read : Reread [] (replicate 3 0xEE) 2 3 (output_after [] (replicate 3 0xEE) 2)
unfolding first_of length_of signal_of event_of records_of file_of sixes events_in widths fit_widths row_refusal first_bad write_refusal end_place
none_read = write_read [] (replicate 3 0xEE) 2 refl

every_back : Copied every_kind 1 (end_place every_rows 41 1) (output_after every_rows (replicate 41 0xEE) 1)
unfolding all_bytes length_of signal_of event_of event_at whole_record record_at item_at from session rows_of
every_back = write_back every_kind (replicate 41 0xEE) 1 (bytes_below every_kind refl) refl (lit≤ tt)

refused_call : write_refusal (tick_row ++ kind_of260) 9 3 ≢ 0
unfolding first_of length_of signal_of event_of records_of file_of sixes events_in widths fit_widths row_refusal first_bad write_refusal
refused_call h = omega (arith, h)

-- what the lines of the table say of a call, by the number
bad_not : (r : List ℕ) (m k : ℕ) → k ≢ 13 → k ≢ 30 → BadRow r m → m ≢ k
bad_not r m k h l (unknown_kind u) e = h (sym e)
bad_not r m k h l (misfit j u v) e = l (sym e)

module _ (xs : List ℕ) (n place : ℕ) where
  whole_told : WriteGiven xs n place 32 → (k : ℕ) → length xs ≢ 6 * k
  whole_told (not_whole u) = u
  whole_told (bad_event es r ys k m h l b y p) = absurd (bad_not r 32 32 (λ e. omega (arith, e)) (λ e. omega (arith, e)) b refl)

  past_told : WriteGiven xs n place 20 → n < place
  past_told (bad_event es r ys k m h l b y p) = absurd (bad_not r 20 20 (λ e. omega (arith, e)) (λ e. omega (arith, e)) b refl)
  past_told (past_end es h p l) = l

  long_told : WriteGiven xs n place 21 → (es : List Event) × (xs ≡ rows_of es) × (n < place + length (file_of es))
  long_told (bad_event es r ys k m h l b y p) = absurd (bad_not r 21 21 (λ e. omega (arith, e)) (λ e. omega (arith, e)) b refl)
  long_told (too_long es h p l k) = (es, p, k)

  done_told : WriteGiven xs n place 0 → (es : List Event) × (xs ≡ rows_of es) × (place + length (file_of es) ≤ n)
  done_told (bad_event es r ys k m h l b y p) = absurd (bad_not r 0 0 (λ e. omega (arith, e)) (λ e. omega (arith, e)) b refl)
  done_told (done es h p k) = (es, p, k)

scope_fits : AllFit scope_events
scope_fits =
    next {e = PowerUp (record { fitted = 0; range = 1; filter = 0; kit = 0; firmware = 0x10 })} (lit< tt, lit< tt, lit< tt, lit< tt, lit< tt)
    (next {e = Write 0x04 5} (lit< tt, lit< tt) (next {e = Write 0x0C 0x20} (lit< tt, lit< tt)
    (next {e = Write 0x18 0x9000} (lit< tt, lit< tt) (next {e = Write 0x18 0x7000} (lit< tt, lit< tt)
    (next {e = Signal Tick} tt (next {e = Read 0x0C} (lit< tt) none))))))

tick_read_fit : AllFit (Signal Tick ∷ Read 0x0C ∷ [])
tick_read_fit = next {e = Signal Tick} tt (next {e = Read 0x0C} (lit< tt) none)

tick_fits : AllFit (Signal Tick ∷ [])
tick_fits = next {e = Signal Tick} tt none

unknown_260 : (n : ℕ) → ¬ Known 260 n
unfolding length_of
unknown_260 = zero_unknown 260 refl

-- no event has the row of a read of 256 whose fields fit
misfit_read : (e : Event) → Fits e → read_of256 ≢ row_of e
misfit_read (PowerUp x) h q = omega (arith, ap (λ (r : List ℕ). field r 0) q)
misfit_read (Write o v) h q = omega (arith, ap (λ (r : List ℕ). field r 0) q)
misfit_read (Read o) h q = omega (arith, h, ap (λ (r : List ℕ). field r 1) q)
misfit_read (Signal Tick) h q = omega (arith, ap (λ (r : List ℕ). field r 0) q)
misfit_read (Signal Outside) h q = omega (arith, ap (λ (r : List ℕ). field r 0) q)
misfit_read (Signal Trigger) h q = omega (arith, ap (λ (r : List ℕ). field r 0) q)
misfit_read (Signal Passed) h q = omega (arith, ap (λ (r : List ℕ). field r 0) q)
misfit_read (Signal Failed) h q = omega (arith, ap (λ (r : List ℕ). field r 0) q)
misfit_read (Signal Settled) h q = omega (arith, ap (λ (r : List ℕ). field r 0) q)

pub writing_met : Writing-met
unfolding first_of length_of signal_of event_of records_of file_of sixes events_in rows_of widths fit_widths row_refusal first_bad write_refusal end_place
writing_met =
    record {
      within = scope_read.within;
      read = scope_read.read;
      before = scope_read.before;
      behind = scope_read.behind;
      none_within = none_read.within;
      none_read = none_read.read;
      none_before = none_read.before;
      none_behind = none_read.behind;
      to_end = every_back.to_end;
      bytes = ap (λ (end : ℕ). slice 1 end (output_after every_rows (replicate 41 0xEE) 1)) (sym every_back.to_end) ∙ every_back.bytes;
      refused_place = (write_refused (tick_row ++ kind_of260) (replicate 9 0xEE) 3 refused_call).0;
      refused_output = (write_refused (tick_row ++ kind_of260) (replicate 9 0xEE) 3 refused_call).1;
      given_32 = (write_exactly (tick_row ++ 4 ∷ []) 4 0 32).1 (not_whole (λ k e. omega (arith, e)));
      given_13 = (write_exactly _ 0 1 13).1 (bad_event (Signal Tick ∷ []) kind_of260 read_of256 1 13 tick_fits refl (unknown_kind unknown_260) refl refl);
      given_30 = (write_exactly _ 0 1 30).1 (bad_event (Signal Tick ∷ []) read_of256 kind_of260 1 30 tick_fits refl (misfit 2 read misfit_read) refl refl);
      given_20 = (write_exactly scope_rows 52 53 20).1 (past_end scope_events scope_fits refl (lit< tt));
      given_21 = (write_exactly scope_rows 50 2 21).1 (too_long scope_events scope_fits refl (lit≤ tt) (lit< tt));
      given_0 = (write_exactly scope_rows 51 2 0).1 (done scope_events scope_fits refl (lit≤ tt));
      told_32 = whole_told (tick_row ++ 4 ∷ []) 4 0 ((write_exactly _ 4 0 32).0 refl);
      told_20 = λ n place h. past_told scope_rows n place ((write_exactly scope_rows n place 20).0 h);
      told_21 = λ n place h. long_told scope_rows n place ((write_exactly scope_rows n place 21).0 h);
      told_0 = λ n place h. done_told scope_rows n place ((write_exactly scope_rows n place 0).0 h);
    }

-- ---- Rows

unknown_told : (r : List ℕ) → RowGiven r 13 → (n : ℕ) → ¬ Known (field r 0) n
unknown_told r (bad (unknown_kind u)) = u

misfit_told : (r : List ℕ) → RowGiven r 30 → (e : Event) → Fits e → r ≢ row_of e
misfit_told r (bad (misfit k h u)) = u

good_told : (r : List ℕ) → RowGiven r 0 → (e : Event) × Fits e × (r ≡ row_of e)
good_told r (bad b) = absurd (bad_not r 0 0 (λ e. omega (arith, e)) (λ e. omega (arith, e)) b refl)
good_told r (good e f q) = (e, f, q)

pub rows_met : Rows-met
unfolding first_of length_of signal_of event_of widths fit_widths row_refusal
rows_met =
    record {
      given_13 = (row_exactly kind_of260 13 refl).1 (bad (unknown_kind unknown_260));
      given_30 = (row_exactly read_of256 30 refl).1 (bad (misfit 2 read misfit_read));
      given_0 =
          (row_exactly _ 0 refl).1
          (good (PowerUp (record { fitted = 255; range = 255; filter = 255; kit = 255; firmware = 65535 }))
          (lit< tt, lit< tt, lit< tt, lit< tt, lit< tt) refl);
      told_13 = unknown_told kind_of260 ((row_exactly kind_of260 13 refl).0 refl);
      told_30 = misfit_told read_of256 ((row_exactly read_of256 30 refl).0 refl);
      told_0 = good_told (2 ∷ 255 ∷ 0xFFFFFFFF ∷ 0 ∷ 0 ∷ 0 ∷ []) ((row_exactly _ 0 refl).0 refl);
      back = row_back (2 ∷ 0x18 ∷ 0x9000 ∷ 0 ∷ 0 ∷ 0 ∷ []) refl refl;
      power_up_read = row_read (PowerUp (record { fitted = 10; range = 11; filter = 12; kit = 13; firmware = 14 }));
      write_read = row_read (Write 0x18 0x9000);
      read_read = row_read (Read 0x14);
      settled_read = row_read (Signal Settled);
    }

-- ---- Items

tick_known : Known 4 1
tick_known = signal 4 (lit≤ tt) (lit≤ tt)

unknown_10 : (n : ℕ) → ¬ Known 10 n
unfolding length_of
unknown_10 = zero_unknown 10 refl

version_told : ItemGiven (0x02 ∷ []) 0 (Over (Refused Version 0)) → byte_at (0x02 ∷ []) 0 ≢ 1
version_told (bad_version h) = h
version_told (first h i r) = absurd (omega (arith, h))

kind_told : (s : List ℕ) → ItemGiven s 8 (Over (Refused Kind 8)) → (n : ℕ) → ¬ Known (byte_at s 10) n
kind_told s (later at i (unknown w z u)) = u

pub items_met : Items-met
unfolding length_of signal_of event_of event_at whole_record record_at item_at
items_met =
    record {
      bad_version = (item_exactly (0x02 ∷ []) 0 _).1 (bad_version (λ e. omega (arith, e)));
      first_event = (item_exactly ten_behind 0 _).1 (first refl _ (event (lit≤ tt) tick_known));
      later_event = (item_exactly ten_behind 4 _).1 (later 3 _ (event (lit≤ tt) read));
      unknown = (item_exactly ten_behind 8 _).1 (later 7 _ (unknown (lit≤ tt) (λ e. omega (arith, e)) unknown_10));
      half_length = (item_exactly half_behind 4 _).1 (later 3 _ (half_length (lit< tt) (lit< tt)));
      short_body = (item_exactly cut_read 1 _).1 (later 0 _ (short_body (lit≤ tt) (lit< tt)));
      length_zero = (item_exactly no_length 1 _).1 (later 0 _ (length_zero (lit≤ tt) refl));
      length_wrong = (item_exactly short_read 1 _).1 (later 0 _ (length_wrong 2 (lit≤ tt) (λ e. omega (arith, e)) read (λ e. omega (arith, e))));
      ended = (item_exactly (0x01 ∷ []) 1 _).1 (later 0 _ (ended (lit≤ tt)));
      told_version = version_told ((item_exactly (0x02 ∷ []) 0 _).0 refl);
      told_kind = kind_told ten_behind ((item_exactly ten_behind 8 _).0 refl);
      further = (item_grows ten_behind 4 (Read 0x0C) 8 refl).0;
      inside = (item_grows ten_behind 4 (Read 0x0C) 8 refl).1;
      bytes_read = bytes_read (0xEE ∷ []) (0xEE ∷ []) (Write 0x18 0x9000) (lit< tt, lit< tt) (lit< tt);
    }

-- ---- Files

opening_told : (s : List ℕ) → FileGiven s 10 0 → byte_at s 0 ≢ 1
opening_told s (not_opened h) = h

cut_told : FileGiven half_behind 11 4 → 5 < 4 + 2
cut_told (in_length p r a b) = b
cut_told (in_body p r a b) = absurd (omega (arith, a))

file_kind_told : (s : List ℕ) → FileGiven s 13 8 → (n : ℕ) → ¬ Known (byte_at s 10) n
file_kind_told s (unknown_kind_at p r w z u) = u

behind_tick : Reached ten_behind 4
behind_tick = passed 1 (opened refl) (lit≤ tt) tick_known

pub files_met : Files-met
unfolding fault_number length_of signal_of event_of event_at whole_record record_at item_at from session records_of file_of all_bytes
files_met =
    record {
      given_10 = (file_exactly [] 10 0).1 (not_opened (λ e. omega (arith, e)));
      given_11 = (file_exactly half_behind 11 4).1 (in_length 4 (passed 1 (opened refl) (lit≤ tt) tick_known) (lit< tt) (lit< tt));
      given_11_body = (file_exactly cut_read 11 1).1 (in_body 1 (opened refl) (lit≤ tt) (lit< tt));
      given_12 = (file_exactly no_length 12 1).1 (zero_length 1 (opened refl) (lit≤ tt) refl);
      given_12_kind = (file_exactly short_read 12 1).1 (wrong_length 1 2 (opened refl) (lit≤ tt) (λ e. omega (arith, e)) read (λ e. omega (arith, e)));
      given_13 =
          (file_exactly ten_behind 13 8).1
          (unknown_kind_at 8 (passed 4 behind_tick (lit≤ tt) read) (lit≤ tt) (λ e. omega (arith, e)) unknown_10);
      given_0 = (file_exactly one_tick 0 0).1 (all_read 4 (passed 1 (opened refl) (lit≤ tt) tick_known) (lit≤ tt));
      told_10 = opening_told (0x02 ∷ []) ((file_exactly (0x02 ∷ []) 10 0).0 refl);
      told_11 = cut_told ((file_exactly half_behind 11 4).0 refl);
      told_13 = file_kind_told ten_behind ((file_exactly ten_behind 13 8).0 refl);
      file_read = file_read (Signal Tick ∷ Read 0x0C ∷ []) tick_read_fit;
      file_written = file_written every_kind (bytes_below every_kind refl) refl;
      refused_there = session_refused ten_behind Kind 8 refl;
      refused_events = refused_events (Signal Tick ∷ Read 0x0C ∷ []) (0x00 ∷ 0x01 ∷ 0x0A ∷ 0x00 ∷ 0x01 ∷ 0x04 ∷ []) Kind 8 tick_read_fit refl;
      refused_first = refused_events [] (0x00 ∷ []) Cut 1 none refl;
    }
