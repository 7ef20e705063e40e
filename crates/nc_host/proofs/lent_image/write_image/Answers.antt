use Rattle.std.proofs.Common.{◌≡◌, ◌+◌, ◌-◌, ◌≤◌, ℕ, List, length, replicate, drop, take, ◌++◌, arith, rules, ap, ◌∙◌}
use Rattle.std.proofs.lemmas.List.{same_lists, places, length-take-le}
use Rattle.nc_text.specs.MarkedText.{with_span}
use borrow.Rule.Slice.PartMut.{put_mid}
use Rattle.nc_host.proofs.lent_image.write_image.Goals as goal

-- a text whose front was filled, and behind it code copied
abbrev half_written : (image front copied code : List ℕ) → ℕ → List ℕ
half_written image front copied code start = put_mid start (start + length code - start) (front ++ drop start image) copied

-- what is left behind the code
rest_long : (image front copied code : List ℕ) (start : ℕ) → start + length code ≤ length image → front ≡ replicate start 244
    → copied ≡ code
    → length (take (length (half_written image front copied code start) - (start + length code))
    (drop (start + length code) (half_written image front copied code start)))
    ≡ length image - (start + length code)
rest_long image front copied code start fits one two = search (rules, places)

-- front and back were filled, and code copied between them
all_written : (image front copied back code : List ℕ) (start : ℕ) → start + length code ≤ length image
    → front ≡ replicate start 244 → copied ≡ code → back ≡ replicate (length image - (start + length code)) 244
    → put_mid (start + length code) (length (half_written image front copied code start) - (start + length code))
    (half_written image front copied code start) back
    ≡ with_span (replicate (length image) 244) start code
all_written image front copied back code start fits one two three =
    same_lists _ _ (search (rules, places)) (λ k d h. grind (arith, places))

pub returns : goal.returns
returns c =
    let image = c.args.image.now in
    let start = c.args.start in
    let code = c.args.code.now in
    let front = c.fill.ensures.after (λ y e. e) ∙ ap (λ (n : ℕ). replicate n 244) (length-take-le start image (omega (arith, c.requires))) in
    let middle = c.copy_from_slice.ensures.after in
    let rest = rest_long image c.fill.new.self c.copy_from_slice.new.self code start c.requires front middle in
    all_written image c.fill.new.self c.copy_from_slice.new.self c.fill-2.new.self code start c.requires front middle
    (c.fill-2.ensures.after (λ y e. e) ∙ ap (λ (n : ℕ). replicate n 244) rest)
