-- Document 01's P7, over the definition that the contracts cite. Assumes nothing.
use Rattle.std.proofs.Common.{◌≡◌, [], ◌∷◌, map, pos, neg_ℤ, refl}
use Rattle.temperature_range.specs.TemperatureRange.{temperature_of}

-- P7: "temperature byte 167 is 127, 168 is −128, 255 is −41"
p7 : map temperature_of (167 ∷ 168 ∷ 255 ∷ []) ≡ pos 127 ∷ neg_ℤ (pos 128) ∷ neg_ℤ (pos 41) ∷ []
p7 = refl
