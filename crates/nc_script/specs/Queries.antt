-- The queries of a script, lines that ask for something and change nothing: the words of those of one word, and the reply to each.
use Rattle.std.specs.Prelude.{ℕ, ◌+◌, Bool, List, length, filter, Option, Some, None, if◌then◌else◌, codes, nat_eq, nat_lt, slice_get}
use Rattle.std.specs.Cmp.Lexicographic.{pointwise}
use Rattle.nc_script.specs.Replies.{dump_reply, chunk_reply}
use Rattle.nc_script.specs.Script.{Script, ScriptChunk, standing_bytes}
use Rattle.nc_script.specs.declared.query.Query.{Query}
use Rattle.nc_script.specs.declared.query.Query.TheVariants.{Dump, ChunkAt}

-- the word has this spelling
abbrev pub is_word : List ℕ → List ℕ → Bool
is_word word spelling = pointwise nat_eq word spelling

-- the query with this word, if there is one
abbrev pub query_in : List ℕ → Option Query
query_in word =
    if is_word word (codes "dump") then Some Dump
    else None

-- the first chunk, live or retired, that ends above the address: the one that covers it, or else the first one above it
abbrev pub next_chunk : ℕ → List ScriptChunk → Option ScriptChunk
next_chunk at chunks = slice_get (filter (λ (c : ScriptChunk). nat_lt at (c.base + length (standing_bytes c.state))) chunks) 0

-- the reply to a query, without its line end: it depends on the script's state alone
abbrev pub reply_to : Query → Script → List ℕ
reply_to Dump script = dump_reply script.chunks
reply_to (ChunkAt at) script = chunk_reply (next_chunk at script.chunks)
