-- Which volume or band a word tells, and why a word tells none.
use Rattle.std.specs.Prelude.{◌≡◌, ℕ, ◌<◌, List, ◌∷◌, ◌++◌, Ok, Err, Result, Contains, ◌⊎◌}
use Rattle.std.specs.Str.Parse.{IsNumeral, digits_value}
use Rattle.quantity.specs.declared.fcr.Volume.{Volume}
use Rattle.quantity.specs.declared.afrr.Band.{Band}
use Rattle.quantity.specs.declared.reading.QuantityFault.{QuantityFault}
use Rattle.quantity.specs.declared.reading.QuantityFault.TheVariants.{WrongDirections, NotANumber, TooLarge}

-- the byte of /
abbrev pub slash : ℕ
slash = 47

-- the word is the number n, written in digits alone
abbrev pub Writes : List ℕ → ℕ → Type 0
Writes word n = IsNumeral 10 word × (n ≡ digits_value 10 word)

abbrev pub ReadsVolume : List ℕ → Result Volume QuantityFault → Type 0
ReadsVolume word (Ok volume) = Writes word volume.tenths
ReadsVolume word (Err WrongDirections) = Contains word slash
ReadsVolume word (Err NotANumber) = ¬ IsNumeral 10 word
ReadsVolume word (Err TooLarge) = IsNumeral 10 word × (10000 < digits_value 10 word)

-- up and down stand on the two sides of a slash, each written as a volume
abbrev pub ReadsBand : List ℕ → Result Band QuantityFault → Type 0
ReadsBand word (Ok band) = (up : List ℕ) × (down : List ℕ) × (word ≡ up ++ (slash ∷ down)) × Writes up band.up × Writes down band.down
ReadsBand word (Err fault) = ((¬ Contains word slash) × (fault ≡ WrongDirections))
    ⊎ ((up : List ℕ) × (down : List ℕ) × (word ≡ up ++ (slash ∷ down)) × (ReadsVolume up (Err fault) ⊎ ReadsVolume down (Err fault)))
