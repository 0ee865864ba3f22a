use Rattle.std.proofs.Common.{rules, arith, ◌≡◌, None, Err, inl, inr, refl}
use Rattle.std.proofs.lemmas.Str.Pattern.{split_parts}
use Rattle.quantity.proofs.WrittenLemmas.{reads_no_band, reads_no_side, reads_sides}
use Rattle.quantity.specs.declared.reading.QuantityFault.TheVariants.{WrongDirections}
use Rattle.quantity.proofs.reading.BandFromStr.from_str.Goals as goal

pub returns-in_err-up : goal.returns-in_err-up
returns-in_err-up c =
    let parts = split_parts 47 c.args.word.now c.split_once.result c.split_once.ensures.cases (omega arith) in
    let none : c.split_once.result ≡ None = search rules in
    reads_no_band c.args.word.now c.from_residual.result (rw none at parts) (search rules)

pub returns-then-contains : goal.returns-then-contains
returns-then-contains c =
    let parts = split_parts 47 c.args.word.now c.split_once.result c.split_once.ensures.cases (omega arith) in
    let read = rw c.in_ok-up.ensures.ok_part at parts in
    reads_no_side c.args.word.now _ _ WrongDirections (Err WrongDirections) read.0 (inr (search rules)) refl

pub returns-in_err-up-2 : goal.returns-in_err-up-2
returns-in_err-up-2 c =
    let parts = split_parts 47 c.args.word.now c.split_once.result c.split_once.ensures.cases (omega arith) in
    let read = rw c.in_ok-up.ensures.ok_part at parts in
    reads_no_side c.args.word.now _ _ _ _ read.0 (inl c.in_err-up-2.ensures.value) (search rules)

pub returns-in_err-down : goal.returns-in_err-down
returns-in_err-down c =
    let parts = split_parts 47 c.args.word.now c.split_once.result c.split_once.ensures.cases (omega arith) in
    let read = rw c.in_ok-up.ensures.ok_part at parts in
    reads_no_side c.args.word.now _ _ _ _ read.0 (inr c.in_err-down.ensures.value) (search rules)

pub returns : goal.returns
returns c =
    let parts = split_parts 47 c.args.word.now c.split_once.result c.split_once.ensures.cases (omega arith) in
    let read = rw c.in_ok-up.ensures.ok_part at parts in
    reads_sides c.args.word.now _ _ c.in_ok-up-2.up c.in_ok-down.down c.of_tenths.result c.ok_or-2.result read.0 c.in_ok-up-2.ensures.value c.in_ok-down.ensures.value (search (rules, c.up.ensures, c.up-2.ensures)) c.ok_or-2.ensures.value
