use Rattle.std.proofs.Common.{◌/◌, ◌%◌, None, ap, sym, ◌∙◌}
use Rattle.std.proofs.lemmas.List.{get_or_default}
use Rattle.nc_text.specs.machinery.Pages.{Slot, byte_if_made}
use Rattle.nc_text.proofs.table.byte.Goals as goal

pub returns-in-None : goal.returns-in-None
returns-in-None c =
    let same = get_or_default c.args.pages.now (c.args.at / 4096) None c.index-pages-at.result c.requires in
    ap (λ (o : Slot). byte_if_made o (c.args.at % 4096)) (sym (same ∙ (sym c.index-pages-at.is ∙ c.in-None.is)))
