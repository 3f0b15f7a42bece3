-- A name for "every rule unfolds here": a proof by computation says `unfolding rules_open`.
use Rattle.rules.specs.Bits.{bits_of, flag, number, active, head_or, all, some, only_if}
use Rattle.rules.specs.Record.{depth_of, active_size, channels, values, stored, options_in_range, sound_core, sound_ring, sound, unpowered}
use Rattle.rules.specs.Clocks.{next_channel, targets, moving, cursor_after, coded, laid, carries_eof, burst_ends, burst_after, load_after, outgoing, moves, clock, on_tick, on_outside, on_trigger}
use Rattle.rules.specs.Registers.{control_bits, mask_bits, rate_bits, buffer_bits, option_bits, adjust_bits, registers, is_offset, read_from}
use Rattle.rules.specs.Writes.{initial, burst_of, cursor_of, calibration_of, write_control, write_mask, write_rate, write_adjust, load_kept, load_asked, buffer_of, tried, write_buffer, write_data, on_write}
use Rattle.rules.specs.Play.{calibration_ends, settles, on_signal, play}
use Rattle.rules.specs.Place.{times, place}
use Rattle.rules.specs.Size.{initialises, code_of, size_after}
use Rattle.rules.specs.Interrupt.{conditions, condition, request_held, edge, request_after}
use Rattle.rules.specs.Refusals.{first_of, setting_rows, ends_nothing, standing, rows, refusal}
use Rattle.rules.specs.Step.{refused, reading, board_before, done, step}
use Rattle.rules.specs.Rates.{reference_of, whole_reference, sample_rate, rate_refusal, rates}
use Rattle.rules.specs.Session.{outcomes, after}

unfoldable pub rules_open : Unit {0}
unfolding bits_of flag number active head_or all some only_if depth_of active_size channels values stored options_in_range sound_core sound_ring sound unpowered next_channel targets moving cursor_after coded laid carries_eof burst_ends burst_after load_after outgoing moves clock on_tick on_outside on_trigger control_bits mask_bits rate_bits buffer_bits option_bits adjust_bits registers is_offset read_from initial burst_of cursor_of calibration_of write_control write_mask write_rate write_adjust load_kept load_asked buffer_of tried write_buffer write_data on_write calibration_ends settles on_signal play times place initialises code_of size_after conditions condition request_held edge request_after first_of setting_rows ends_nothing standing rows refusal refused reading board_before done step reference_of whole_reference sample_rate rate_refusal rates outcomes after
rules_open = tt
