-- The two writes, then the cut: the loads find the size that is named, and the rest is as in the other order (specs/PlaysAtSize).
use Prim.Native.Nat.{ℕ}
use mathlib.Core.Path.{refl, sym, ap, subst, ◌∙◌}
use mathlib.Core.List.{List, ◌++◌}
use native.Mathlib.Omega.{arith}
use lib.ListN.{length}
use Rattle.rules.specs.declared.Settings.{Settings}
use Rattle.rules.specs.declared.Event.{Event}
use Rattle.rules.specs.Record.{State, start}
use Rattle.rules.specs.Writes.{initial}
use Rattle.file_rules.specs.Bytes.{records_of}
use Rattle.cut_rules.specs.Cut.{Cut, events}
use Rattle.cut_rules.specs.Plays.{Ordered, powered, Playable, EitherOrder, many_ticks, cut_bytes}
use Rattle.cut_rules.specs.PlaysAtSize.{EquippedAtSize, Channel-plays-at-size, Shipped-plays-at-size}
use Rattle.cut_rules.proofs.Given.{good_cut}
use Rattle.cut_rules.proofs.Loading.{masked, TakesValues, MaskFitted, cut_done, powered_board, initial_takes, initial_twenty}
use Rattle.cut_rules.proofs.TwoWrites.{board_playing, still_after, uncircled_after, ready_to_play, two_done}
use Rattle.cut_rules.proofs.Plays.{PlaysOut, parts_play}
use Rattle.cut_rules.proofs.Shipped.{both_fit, ticks_fit, two_fit, cut_fits, ordered, records_append, cut_records, file_plays}

writes_then_cut : (q : Cut) (s : State) (x : Settings) (v w : ℕ) (two : List Event)
    → Ordered q → EquippedAtSize q s x w → Playable v w → EitherOrder v w two
    → PlaysOut q v (powered s x) (λ n. two ++ (events q ++ many_ticks n))
unfolding initial
writes_then_cut q s x v w two o h p e =
    let still = (initial_takes x).uncalibrating in
    let b = two_done v w p (powered_board s x h.accepted) still two e in
    let r = b.written in
    let takes : TakesValues b.core = record { uncircled = uncircled_after v w p r still; uncalibrating = still_after v w p r still } in
    let d = cut_done q b.end takes (subst (MaskFitted q.mask) (sym r.options) h.outputs) o.sixteen (omega (arith, h.room)) in
    let twenty = ap length r.levels ∙ initial_twenty x in
    parts_play q o v (powered s x) two (events q) b.fine d.fine
    (board_playing d.end (ready_to_play v w p r still q.mask (masked q.mask b.core).outputs refl refl twenty))

pub channel_plays_at_size : Channel-plays-at-size
channel_plays_at_size q s x v w two o h p e = (writes_then_cut q s x v w two o h p e).plays

pub shipped_plays_at_size : Shipped-plays-at-size
shipped_plays_at_size q x v w two m out place sixteen z h p v-fits w_Fits e =
    let g = good_cut q (length out) place z in
    let after_writes : ℕ → List Event = λ n. events q ++ many_ticks n in
    file_plays q x v m (λ n. records_of two ++ (cut_bytes q out place ++ records_of (many_ticks n))) (λ n. two ++ after_writes n) h.accepted
    (λ n.
    (λ i. records_of two ++ (cut_records q out place z i ++ records_of (many_ticks n)))
    ∙ (λ i. records_of two ++ sym (records_append (events q) (many_ticks n)) i)
    ∙ sym (records_append two (after_writes n)))
    (λ n. both_fit two (after_writes n) (two_fit v w two v-fits w_Fits e) (both_fit (events q) (many_ticks n) (cut_fits q sixteen _ _ g) (ticks_fit n)))
    (writes_then_cut q (start m) x v w two (ordered q sixteen _ _ g) h p e)
