-- `fields::fields_in` meets its contract: word by word.
use Rattle.std.proofs.Common.{◌≡◌, ◌<◌, ◌∙◌, sym, ap, subst, add-one, arith, length, map, Err, rules}
use lib.ListN.{length-map}
use Rattle.layout.specs.declared.labels.Label.TheVariants.{D}
use Rattle.layout.specs.Layout.{fields_in}
use Rattle.layout.specs.Faults.{label_number, fault_number}
use Rattle.layout.specs.Parts.{FieldsSaid, field_said}
use Rattle.layout.proofs.InLine.{Found, found_faulty, found_more, label_here}
use Rattle.layout.proofs.fields.fields_in.Goals as goal

pub returns-in_err-values : goal.returns-in_err-values
returns-in_err-values c =
    let labels = c.args.labels.now in
    let more : c.loop-i.i < length (map label_number labels) = omega (arith, length-map labels label_number, c.loop-i-test.true) in
    let faulty = found_faulty _ _ _ _ _ c.loop-i.invariant more (fault_number c.in_err-values.field-0.0) (label_here labels c.loop-i.i D c.loop-i.rest.now (omega (arith, c.loop-i-test.true)) (λ later. c.field_in.ensures later ∙ ap (λ r. field_said r later) c.in_err-values.was)) in
    let given : c.from_residual.result ≡ Err c.in_err-values.field-0.0 = search rules in
    subst (λ r. FieldsSaid r (fields_in (map label_number labels) c.args.line.now)) (sym given) faulty

pub loop-i-preserved : goal.loop-i-preserved
loop-i-preserved c =
    let labels = c.args.labels.now in
    let more : c.loop-i.i < length (map label_number labels) = omega (arith, length-map labels label_number, c.loop-i-test.true) in
    subst
    (Found (map label_number labels) c.args.line.now _ _)
    (sym (add-one c.loop-i.i))
    (found_more _ _ _ _ _ c.loop-i.invariant more c.in_ok-values.field-0-0 c.in_ok-values.field-0-1.now (label_here labels c.loop-i.i D c.loop-i.rest.now (omega (arith, c.loop-i-test.true)) (λ later. c.field_in.ensures later ∙ ap (λ r. field_said r later) c.in_ok-values.was)) (omega (arith, length-map labels label_number, c.requires)))
