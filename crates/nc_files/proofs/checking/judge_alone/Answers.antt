use Rattle.std.proofs.Common.{refl, sym, subst}
use Rattle.nc_files.specs.Files.{IsUnread}
use Rattle.nc_files.proofs.PrintedFiles.{printed_report, printed_unread}
use Rattle.nc_files.proofs.checking.judge_alone.Goals as goal

pub returns-in-Ok : goal.returns-in-Ok
returns-in-Ok g c =
    let (code, written) = c.in-Ok.ensures.report in
    printed_report c.args.request.now c.args.file code c.in-Ok.is_refused _ _ _ _ written refl refl

pub returns-in-Err-Unread : goal.returns-in-Err-Unread
returns-in-Err-Unread g c =
    printed_unread c.args.request.now c.args.file _ _ _ _
    (c.in-Err-Unread.ensures.unread (subst IsUnread (sym c.in-Err-Unread.field-0-is) tt)) refl refl
