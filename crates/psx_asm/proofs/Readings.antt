-- What a line is read as, by its tokens.
use Rattle.std.proofs.Common.{◌≡◌, ◌⊎◌, ℕ, List, Option, Some, None, Result, Ok, Err, refl, ⊎_elim}
use Rattle.psx_lex.specs.declared.token.Token.{Token}
use Rattle.psx_lex.specs.declared.token.LexError.{LexError}
use Rattle.psx_lex.specs.declared.token.LexError.TheVariants.{BadToken, Memory}
use Rattle.psx_lex.specs.Line.{IsTokensOf}
use Rattle.psx_asm.specs.Piece.{Piece, pieces, IsReadAs}

-- by its tokens, where they are the only ones
pub read_tokens : (line : List ℕ) (tokens : List Token) → ((answer : Result (List Token) LexError) → IsTokensOf line answer → answer ≡ Ok tokens)
    → (reading : Option (List Piece)) → IsReadAs line reading → Some (pieces line tokens) ≡ reading
read_tokens line tokens only (Some ps) h = let e : Ok h.0 ≡ Ok tokens = only (Ok h.0) h.1 in let p : ps ≡ pieces line h.0 = h.2 in cc
read_tokens line tokens only None h = let e : Err (BadToken h.0) ≡ Ok tokens = only (Err (BadToken h.0)) h.1 in cc

-- as nothing, where there is a byte that begins none
pub read_none : (line : List ℕ) (e : LexError) (at : ℕ) → e ≡ BadToken at
    → ((answer : Result (List Token) LexError) → IsTokensOf line answer → (e ≡ Memory) ⊎ (answer ≡ Err e))
    → (reading : Option (List Piece)) → IsReadAs line reading → None ≡ reading
read_none line e at bad only (Some ps) h = ⊎_elim (λ m. cc) (λ m. cc) (only (Ok h.0) h.1)
read_none line e at bad only None h = refl
