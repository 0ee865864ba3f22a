-- What a word that is a number tells: what its parse gives, and which volume it is.
use Rattle.std.proofs.Common.{◌≡◌, ◌≢◌, ◌∙◌, ◌<◌, ℕ, List, ◌∷◌, ◌++◌, length, get_or, Option, Some, None, Result, Err, ◌⊎◌, inl, inr, arith, refl, sym, subst}
use Rattle.std.specs.Option.{ok_or}
use Rattle.std.specs.Result.{OkIff}
use Rattle.std.specs.Str.Parse.{AllDigits, IsNumeral, digits_value, ParsesUnsigned}
use Rattle.std.proofs.lemmas.List.{get_or_read}
use Rattle.std.proofs.lemmas.Str.Parse.{IsNumeralModel, tells_digits, numerals_by_value, parse_digits}
use Rattle.quantity.specs.Fcr.{volume_of}
use Rattle.quantity.specs.FcrLaws.{Tells, volume_tells}
use Rattle.quantity.specs.Afrr.{band_of}
use Rattle.quantity.specs.AfrrLaws.{Tells as BandTells, band_tells}
use Rattle.quantity.specs.Written.{Writes, ReadsVolume, ReadsBand}
use Rattle.quantity.specs.declared.fcr.Volume.{Volume}
use Rattle.quantity.specs.declared.afrr.Band.{Band}
use Rattle.quantity.specs.declared.reading.QuantityFault.{QuantityFault}
use Rattle.quantity.specs.declared.reading.QuantityFault.TheVariants.{WrongDirections, TooLarge}

decimals : IsNumeralModel (AllDigits 10) (digits_value 10)
decimals = numerals_by_value _ tells_digits

pub parse_of_number : {E : Type 0} (word : List ℕ) (r : Result ℕ E) → ParsesUnsigned 16 10 word r → IsNumeral 10 word → OkIff r ((0 < length word) × (digits_value 10 word < 65536)) (digits_value 10 word)
parse_of_number word r told is = parse_digits decimals 16 word r told is.1

reads_told : (word : List ℕ) (n : ℕ) → Writes word n → (o : Option Volume) → Tells n o → ReadsVolume word (ok_or o TooLarge)
reads_told word n w (Some volume) told = (w.0, told ∙ w.1)
reads_told word n w None told = (w.0, omega (arith, told, w.1))

-- of a number the volume of that many tenths is read
pub reads_volume : (word : List ℕ) (n : ℕ) (o : Option Volume) (r : Result Volume QuantityFault) → Writes word n → o ≡ volume_of n → r ≡ ok_or o TooLarge → ReadsVolume word r
reads_volume word n o r w told is = subst (ReadsVolume word) (sym is) (reads_told word n w o (subst (Tells n) (sym told) (volume_tells n)))

-- a word with no slash
pub reads_no_band : (word : List ℕ) (r : Result Band QuantityFault) → ((i : ℕ) → i < length word → get_or word i 0 ≢ 47) → r ≡ Err WrongDirections → ReadsBand word r
reads_no_band word r none is = subst (ReadsBand word) (sym is) (inl ((λ has. none has.0 has.1 (sym (get_or_read word has.0 47 has.1 (sym has.2) 0))), refl))

-- a word with a side that is no volume
pub reads_no_side : (word up down : List ℕ) (fault : QuantityFault) (r : Result Band QuantityFault) → word ≡ up ++ (47 ∷ down) → ReadsVolume up (Err fault) ⊎ ReadsVolume down (Err fault) → r ≡ Err fault → ReadsBand word r
reads_no_side word up down fault r parts side is = subst (ReadsBand word) (sym is) (inr (up, down, parts, side))

sides_told : (word up down : List ℕ) (u d : Volume) → word ≡ up ++ (47 ∷ down) → Writes up u.tenths → Writes down d.tenths → (o : Option Band) → BandTells u.tenths d.tenths o → ReadsBand word (ok_or o TooLarge)
sides_told word up down u d parts w x (Some band) told = (up, down, parts, (w.0, told.0 ∙ w.1), (x.0, told.1 ∙ x.1))
sides_told word up down u d parts w x None told = absurd (told u.bounded d.bounded)

-- of two sides that are volumes their band is read
pub reads_sides : (word up down : List ℕ) (u d : Volume) (o : Option Band) (r : Result Band QuantityFault) → word ≡ up ++ (47 ∷ down) → Writes up u.tenths → Writes down d.tenths → o ≡ band_of u.tenths d.tenths → r ≡ ok_or o TooLarge → ReadsBand word r
reads_sides word up down u d o r parts w x told is = subst (ReadsBand word) (sym is) (sides_told word up down u d parts w x o (subst (BandTells u.tenths d.tenths) (sym told) (band_tells u.tenths d.tenths)))
