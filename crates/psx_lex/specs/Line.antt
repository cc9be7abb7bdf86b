-- The tokens of a line, in order, or the place of the first byte that begins none.
use Rattle.std.specs.Prelude.{◌≡◌, ◌≢◌, ℕ, ◌-◌, ◌<◌, ◌≤◌, Bool, ◌||◌, ◌==◌, List, [], ◌∷◌, length, drop, slice_index, IsTrue, Result, Ok, Err}
use Rattle.psx_lex.specs.declared.token.Token.{Token}
use Rattle.psx_lex.specs.declared.token.LexError.{LexError}
use Rattle.psx_lex.specs.declared.token.LexError.TheVariants.{BadToken, Memory}
use Rattle.psx_lex.specs.Lexeme.{BeginsToken, BeginsNone}

-- a space, a tab or a comma
abbrev pub is_blank : ℕ → Bool
is_blank c = c == 32 || (c == 9 || c == 44)

-- from a place on up to another, a line has only blanks
pub record IsBlank (line : List ℕ) (from to : ℕ) : Type 0 where
  pub order : from ≤ to
  pub within : to ≤ length line
  pub blank : (k : ℕ) → from ≤ k → k < to → IsTrue (is_blank (slice_index line k))

-- from a place on up to another, a line has these tokens in order, and before, between and behind them only blanks
abbrev pub HasTokens : List ℕ → ℕ → List Token → ℕ → Type 0
HasTokens line from [] to = IsBlank line from to
HasTokens line from (t ∷ ts) to = IsBlank line from t.from × (t.from ≤ t.to) × BeginsToken (drop t.from line) t.kind (t.to - t.from) × HasTokens line t.to ts to

-- at a place there is nothing more, or a comment
abbrev pub HasNoMore : List ℕ → ℕ → Type 0
HasNoMore line at = (at < length line) → slice_index line at ≡ 35

-- at a place there is a byte that begins no token, no comment and isn't blank
pub record IsBadAt (line : List ℕ) (at : ℕ) : Type 0 where
  pub within : at < length line
  pub blank : ¬ IsTrue (is_blank (slice_index line at))
  pub comment : slice_index line at ≢ 35
  pub none : BeginsNone (drop at line)

-- the tokens of a line, or its first byte that begins none
abbrev pub IsTokensOf : List ℕ → Result (List Token) LexError → Type 0
IsTokensOf line (Ok tokens) = (to : ℕ) × HasTokens line 0 tokens to × HasNoMore line to
IsTokensOf line (Err (BadToken at)) = (before : List Token) × HasTokens line 0 before at × IsBadAt line at
IsTokensOf line (Err Memory) = ⊥

-- each line has tokens, or has one first byte that begins none
abbrev pub HasOneAnswer : List ℕ → Type 0
HasOneAnswer line = (answer : Result (List Token) LexError) × IsTokensOf line answer × ((other : Result (List Token) LexError) → IsTokensOf line other → other ≡ answer)
