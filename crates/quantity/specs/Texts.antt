-- The words of volumes and bands.
use Rattle.std.specs.Prelude.{ℕ, List, ◌++◌, codes, decimal}
use Rattle.quantity.specs.declared.fcr.Volume.{Volume}
use Rattle.quantity.specs.declared.afrr.Band.{Band}

abbrev pub volume_text : Volume → List ℕ
volume_text v = decimal v.tenths

abbrev pub band_text : Band → List ℕ
band_text v = decimal v.up ++ (codes "/" ++ decimal v.down)
