-- Worked answers: the halves of a four-byte count, and flags as bytes. Assumes nothing.
use mathlib.Core.Path.{◌≡◌, refl}
use mathlib.Core.Bool.{true, false}
use mathlib.Core.List.{[], ◌∷◌, map}
use Rattle.wire.specs.Bytes.{high_half, low_half, flag_byte, packed, byte_of}

halves : (high_half 0x12345678 ∷ low_half 0x12345678 ∷ []) ≡ 0x1234 ∷ 0x5678 ∷ []
halves = refl

-- "a true flag is 1"
flags : map flag_byte (true ∷ false ∷ []) ≡ 1 ∷ 0 ∷ []
flags = refl

-- "lowest bit first"
bits : map packed ([] ∷ (true ∷ []) ∷ (true ∷ true ∷ false ∷ true ∷ []) ∷ (false ∷ false ∷ false ∷ false ∷ false ∷ false ∷ false ∷ true ∷ []) ∷ []) ≡ 0 ∷ 1 ∷ 11 ∷ 128 ∷ []
bits = refl

-- of five flags: all eight from the first on, three of them, those from the second on, and those past the last
bytes :
    (byte_of (true ∷ true ∷ false ∷ true ∷ true ∷ []) 0 8 ∷ byte_of (true ∷ true ∷ false ∷ true ∷ true ∷ []) 0 3 ∷ byte_of (true ∷ true ∷ false ∷ true ∷ true ∷ []) 1 8 ∷ byte_of (true ∷ true ∷ false ∷ true ∷ true ∷ []) 5 8 ∷ [])
    ≡ 27 ∷ 3 ∷ 13 ∷ 0 ∷ []
bytes = refl
