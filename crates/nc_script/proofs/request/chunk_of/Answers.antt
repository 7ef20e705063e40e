use Rattle.std.proofs.Common.{ℕ, ◌∙◌, ap, sym}
use Rattle.std.specs.Option.{option_map}
use Rattle.nc_script.specs.Requests.{Query}
use Rattle.nc_script.specs.declared.query.Query.TheVariants.{ChunkAt}
use Rattle.nc_script.proofs.serving.RequestWords.{chunk_text}
use Rattle.nc_script.proofs.request.chunk_of.Goals as goal

pub returns-in-Some : goal.returns-in-Some
returns-in-Some c = sym (chunk_text c.args.text.now ∙ ap (option_map (λ (at : ℕ). Query (ChunkAt at))) (sym c.in-Some.ensures))

pub returns-in-None : goal.returns-in-None
returns-in-None c = sym (chunk_text c.args.text.now ∙ ap (option_map (λ (at : ℕ). Query (ChunkAt at))) (sym c.in-None.ensures))
