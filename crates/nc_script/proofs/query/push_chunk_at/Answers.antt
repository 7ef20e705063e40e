use Rattle.std.proofs.Common.{◌≡◌, ◌++◌, ◌∙◌, List, ℕ, Option, OnOk, refl, sym, ap, subst, append_assoc}
use Rattle.std.specs.Prelude.{codes}
use Rattle.std.proofs.lemmas.Result.{on_ok_weaker}
use Rattle.nc_output.proofs.Offered.{added_all}
use Rattle.nc_script.specs.Replies.{chunk_reply, chunk_words}
use Rattle.nc_script.specs.Script.{ScriptChunk}
use Rattle.nc_script.specs.machinery.Session.{script_chunk}
use Rattle.nc_script.proofs.chunks.NextChunk.{next_found, none_found}
use Rattle.nc_script.proofs.query.push_chunk_at.Goals as goal

pub returns-in_default : goal.returns-in_default
returns-in_default g c =
    let region = c.args.region.now in
    subst (λ (found : Option ScriptChunk). OnOk c.extend_from_slice.result
    (c.extend_from_slice.new.self.items ≡ c.args.out.now.items ++ chunk_reply found))
    (sym (none_found region.marked.bytes c.args.at region.chunks c.chunk_count-facts.ensures.region.placed (c.in_default.ensures.none refl)))
    (added_all c.extend_from_slice.result _ _ (codes "none") c.extend_from_slice.ensures.items)

pub returns : goal.returns
returns g c =
    let region = c.args.region.now in
    let old = c.args.out.now.items in
    let words = chunk_words (script_chunk region.marked.bytes c.in-Some.chunk) in
    let found = next_found region.marked.bytes c.args.at region.chunks c.in-Some.chunk c.chunk_count-facts.ensures.region.placed
    c.in-Some.ensures.found in
    on_ok_weaker c.push_chunk.result
    (λ written. written ∙ ap (λ (begun : List ℕ). begun ++ words) c.in_ok-extend_from_slice.ensures.items
    ∙ append_assoc old (codes "chunk") words ∙ ap (λ (shown : Option ScriptChunk). old ++ chunk_reply shown) (sym found))
    c.push_chunk.ensures
