-- The count and the fields of a text that begins with a letter, a space and a count.
use Rattle.std.proofs.Common.{◌≡◌, ℕ, ◌<◌, ◌^◌, List, ◌∷◌, ◌++◌, drop, take, slice_index, decimal, ap, ◌∙◌}
use Rattle.std.specs.Char.{is_ascii_digit}
use Rattle.std.specs.List.{prefix_len}
use Rattle.psx_text.proofs.Numerals.{number_then}

pub parts : (text body digits fields : List ℕ) (len count : ℕ) → body ≡ drop 2 text → len ≡ prefix_len is_ascii_digit body → digits ≡ take len body → fields ≡ drop len body
    → ((n : ℕ) → n < 2 ^ 64 → digits ≡ decimal n → count ≡ n)
    → (letter n : ℕ) (rest : List ℕ) → n < 2 ^ 64 → slice_index rest 0 < 48 → text ≡ letter ∷ 32 ∷ (decimal n ++ rest) → (count ≡ n) × (fields ≡ rest)
parts text body digits fields len count b l d f k letter n rest small low e =
    let split = number_then body n rest small low (b ∙ ap (drop 2) e) in
    (k n small (d ∙ ap (λ m. take m body) l ∙ split.0), f ∙ ap (λ m. drop m body) l ∙ split.1)
