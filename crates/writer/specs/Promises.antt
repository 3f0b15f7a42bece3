-- What the public functions and the exported ones promise: each fixes the answer and every byte of the output.
use Rattle.std.specs.Prelude.{ℕ, ◌≡◌, List, length}
use Rattle.file_rules.specs.Writing.{write_refusal, end_place, output_after}
use Rattle.cut_rules.specs.Cut.{Cut, cut_refusal, cut_end, cut_output}
use Rattle.writer.specs.Written.{Written}

-- write(xs, out, place) answers what r is the numbers of (`written_of`), and out is out' afterwards; nergutsai_write(xs, out, place, end)
-- answers r's refusal, and leaves its place in `end`
pub record Writes (xs out : List ℕ) (place : ℕ) (r : Written) (out' : List ℕ) : Type 0 where
  pub refusal : r.refusal ≡ write_refusal xs (length out) place
  pub place_after : r.place ≡ end_place xs (length out) place
  pub output : out' ≡ output_after xs out place

-- the order of a cut: the recording, the channels in a group, the first group and the last, and the mask of the chosen channels
abbrev pub cut_of : List ℕ → ℕ → ℕ → ℕ → ℕ → Cut
cut_of recording channels first last mask =
    record { recording = recording; channels = channels; first = first; last = last; mask = mask }

-- cut(q, out, place) answers what r is the numbers of (`written_of`), and out is out' afterwards; nergutsai_cut(q, out, place, end) answers
-- r's refusal, and leaves its place in `end`
pub record Cuts (q : Cut) (out : List ℕ) (place : ℕ) (r : Written) (out' : List ℕ) : Type 0 where
  pub refusal : r.refusal ≡ cut_refusal q (length out) place
  pub place_after : r.place ≡ cut_end q (length out) place
  pub output : out' ≡ cut_output q out place
