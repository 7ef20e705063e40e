use Rattle.std.proofs.Common.{◌≡◌, ◌<◌, ◌∙◌, List, length, get_or, Some, arith, ap, refl, sym, subst}
use Rattle.std.specs.Prelude.{slice_get}
use Rattle.std.proofs.lemmas.Option.{slice_get_read}
use Rattle.nc_decode.specs.declared.bundle.Bundle.{Bundle}
use Rattle.nc_vet.specs.declared.vetted.Marks.{Marks}
use Rattle.nc_decode.specs.Bits.{mark_by_bits, marks_in}
use Rattle.nc_vet.specs.Listed.{listed}
use Rattle.nc_decode.proofs.Offered.{marks_in-at, length-marks_in}
use Rattle.nc_vet.proofs.vetted.Marks.at.Goals as goal

pub index-requires : goal.index-requires
index-requires c = omega (arith, c.requires.each, ap (λ (m : Marks). length (listed c.args.code.now m)) c.in-Each.is, c.in-Each.marks.ok.0)

pub returns-in-Bits : goal.returns-in-Bits
returns-in-Bits c =
    let read : c.mark_at.result ≡ mark_by_bits c.args.code.now c.in-Bits.bundles.items c.args.k =
    c.mark_at.ensures ∙ ap (λ (z : List Bundle). mark_by_bits c.args.code.now z c.args.k) c.deref.ensures.value in
    let is : c.mark_at.result ≡ get_or (marks_in c.args.code.now c.in-Bits.bundles.items) c.args.k c.mark_at.result =
    read ∙ sym (marks_in-at c.args.code.now c.in-Bits.bundles.items c.args.k c.mark_at.result c.requires.place) in
    subst (λ (m : Marks). slice_get (listed c.args.code.now m) c.args.k ≡ Some c.mark_at.result) (sym c.in-Bits.is)
    (slice_get_read (marks_in c.args.code.now c.in-Bits.bundles.items)
    (length (marks_in c.args.code.now c.in-Bits.bundles.items)) c.args.k c.mark_at.result refl
    (omega (arith, length-marks_in c.args.code.now c.in-Bits.bundles.items, c.requires.place)) is)

pub returns-in-Each : goal.returns-in-Each
returns-in-Each c =
    let long : c.args.k < length c.in-Each.marks.items = omega
    (arith, c.requires.place, c.requires.each, ap (λ (m : Marks). length (listed c.args.code.now m)) c.in-Each.is) in
    subst (λ (m : Marks). slice_get (listed c.args.code.now m) c.args.k ≡ Some c.index.result.now) (sym c.in-Each.is)
    (slice_get_read c.in-Each.marks.items (length c.in-Each.marks.items) c.args.k c.index.result.now refl long c.index.ensures)
