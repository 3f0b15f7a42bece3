-- Whether a session of so many bytes fits into an output of n bytes from a place on.
use Rattle.std.specs.Prelude.{ℕ, ◌+◌, [], ◌∷◌, ltb}
use Rattle.rules.specs.Refusals.{◌when◌, first_of}

-- 02: "20 a place past the output's end, 21 when the whole session doesn't fit"
unfoldable pub room_refusal : ℕ → ℕ → ℕ → ℕ
room_refusal n place long = first_of (20 when ltb n place ∷ 21 when ltb n (place + long) ∷ [])
