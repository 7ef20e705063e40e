use Rattle.std.proofs.Common.{arith, refl, ◌∙◌, ap, ℕ, List, length, ◌≡◌, set}
use Rattle.std.proofs.lemmas.List.{length-set}
use Rattle.nc_acts.specs.Acts.{is_inside}
use Rattle.nc_acts.specs.declared.acts.Act.TheVariants.{MarkSpan}
use Rattle.nc_acts.specs.declared.acts.Entry.TheVariants.{Did}
use Rattle.nc_host_acts.specs.Shown.{entry_of}
use Rattle.nc_host_acts.specs.declared.act.NcAct.{NcAct}
use Rattle.nc_host_acts.proofs.writing.WholeLists.{both_of_create, first_written, creation_written}
use Rattle.nc_host_acts.proofs.putting.write_creation.Goals as goal

pub write_code-count-requires-clause-room : goal.write_code-count-requires-clause-room
write_code-count-requires-clause-room g c = omega (arith, c.requires.room, both_of_create c.args.base (g.C.ReadChunk.code c.args.chunk.now))

pub write-serialized-requires : goal.write-serialized-requires
write-serialized-requires g c =
    let one = first_written is_inside c.args.base (g.C.ReadChunk.code c.args.chunk.now) c.args.acts.now c.write_code-count.new.acts (length (g.C.ReadChunk.code c.args.chunk.now))
    c.write_code-count.result refl c.write_code-count.ensures in
    omega (arith, one.len, one.counted, c.requires.room, both_of_create c.args.base (g.C.ReadChunk.code c.args.chunk.now))

pub write-marked-requires : goal.write-marked-requires
write-marked-requires g c =
    let one = first_written is_inside c.args.base (g.C.ReadChunk.code c.args.chunk.now) c.args.acts.now c.write_code-count.new.acts (length (g.C.ReadChunk.code c.args.chunk.now))
    c.write_code-count.result refl c.write_code-count.ensures in
    let same : length c.write-serialized.new.acts ≡ length c.write_code-count.new.acts =
    ap (λ (z : List NcAct). length z) c.write-serialized.ensures.acts
    ∙ length-set c.write_code-count.new.acts c.write_code-count.result c.serialize.result in
    omega (arith, one.len, one.counted, c.requires.room, c.write-serialized.ensures.count, same, both_of_create c.args.base (g.C.ReadChunk.code c.args.chunk.now))

pub write_code-requires-clause-room : goal.write_code-requires-clause-room
write_code-requires-clause-room g c =
    let one = first_written is_inside c.args.base (g.C.ReadChunk.code c.args.chunk.now) c.args.acts.now c.write_code-count.new.acts (length (g.C.ReadChunk.code c.args.chunk.now))
    c.write_code-count.result refl c.write_code-count.ensures in
    let same : length c.write-serialized.new.acts ≡ length c.write_code-count.new.acts =
    ap (λ (z : List NcAct). length z) c.write-serialized.ensures.acts
    ∙ length-set c.write_code-count.new.acts c.write_code-count.result c.serialize.result in
    let still : length c.write-marked.new.acts ≡ length c.write-serialized.new.acts =
    ap (λ (z : List NcAct). length z) c.write-marked.ensures.acts
    ∙ length-set c.write-serialized.new.acts c.write-serialized.result c.mark_span.result in
    omega (
      arith,
      one.len,
      one.counted,
      c.requires.room,
      c.write-serialized.ensures.count,
      c.write-marked.ensures.count,
      same,
      still,
      both_of_create c.args.base (g.C.ReadChunk.code c.args.chunk.now),
    )

pub returns : goal.returns
returns g c =
    let here : c.mark_span.result ≡ entry_of (Did (MarkSpan c.args.base (length (g.C.ReadChunk.code c.args.chunk.now)))) =
    c.mark_span.ensures ∙ ap (λ (n : ℕ). entry_of (Did (MarkSpan c.args.base n))) c.len.ensures in
    creation_written c.args.base (g.C.ReadChunk.code c.args.chunk.now) c.args.acts.now c.write_code-count.new.acts c.write-serialized.new.acts c.write-marked.new.acts
    c.write_code.new.acts c.write_code-count.result c.write-serialized.result c.write-marked.result c.write_code.result
    c.write_code-count.ensures
    (c.write-serialized.ensures.acts ∙ ap (λ (a : NcAct). set c.write_code-count.new.acts c.write_code-count.result a) c.serialize.ensures)
    c.write-serialized.ensures.count
    (c.write-marked.ensures.acts ∙ ap (λ (a : NcAct). set c.write-serialized.new.acts c.write-serialized.result a) here)
    c.write-marked.ensures.count c.write_code.ensures c.requires.room
