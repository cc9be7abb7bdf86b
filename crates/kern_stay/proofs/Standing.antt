-- The words of a listing stand where they run.
use Rattle.std.proofs.Common.{◌≡◌, ℕ, ◌+◌, ◌*◌, ◌%◌, ◌^◌, ◌<◌, ◌≤◌, List, [], ◌∷◌, ◌++◌, length, get_or, Bool, true, ap, ◌∙◌, arith}
use Rattle.std.specs.Prelude.{nat_le, nat_eq, ◌&&◌}
use Rattle.std.proofs.lemmas.Bool.{and_parts, leb-true, eqb-true}
use Rattle.psx_base.specs.Memory.{Memory, word}
use Rattle.psx_base.specs.Addresses.{place}
use Rattle.psx_flow.specs.Tree.{Tree, flat}
use Rattle.psx_flow.specs.Well.{fits}
use Rattle.psx_flow.specs.Spaced.{is_spaced}
use Rattle.psx_flow.specs.Lowered.{lowered, reaches}
use Rattle.psx_flow.specs.Kernel.{kernel_words}
use Rattle.psx_flow.specs.Reaches.{Lies, Stands, IsPlaced}
use Rattle.psx_flow.proofs.Placing.{stands_by, lies_low}
use Rattle.kern_stay.specs.Words.{Stand}

pub code_place : (a : ℕ) → a < 0xB000 → place (0x80000000 + a) ≡ a
code_place a h = grind arith

-- ---- words, one behind the other, in the kernel's code

pub cached_place : (at k : ℕ) → 0x80000000 ≤ at → at + 4 * k < 0x8000B000 → place (at + 4 * k) ≡ at % 2 ^ 29 + 4 * k
cached_place at k low high =
    let e : at + 4 * k ≡ 0x80000000 + (at % 2 ^ 29 + 4 * k) = omega arith in
    ap place e ∙ code_place (at % 2 ^ 29 + 4 * k) (omega arith)

-- a word at an address of the cached segment
code_lies : (m : Memory) (at k w : ℕ) → at % 4 ≡ 0 → 0x80000000 ≤ at → at + 4 * k < 0x8000B000 → word m (at % 2 ^ 29 + 4 * k) ≡ w → Lies kernel_words m (at + 4 * k) w
code_lies m at k w al low high e =
    let p = cached_place at k low high in
    lies_low m (at + 4 * k) w (omega arith) (omega (arith, p)) (ap (word m) p ∙ e)

-- an address of the kernel's code, with room for so many words behind it
abbrev pub is_code : ℕ → ℕ → Bool
is_code at n = nat_eq (at % 4) 0 && (nat_le 0x80000000 at && nat_le (at + 4 * n) 0x8000B000)

pub code_stands : (m : Memory) (at : ℕ) (ws : List ℕ) → is_code at (length ws) ≡ true → ((k : ℕ) → k < length ws → word m (at % 2 ^ 29 + 4 * k) ≡ get_or ws k 0) → Stands kernel_words m at ws
code_stands m at ws c r =
    let e = and_parts (nat_eq (at % 4) 0) (nat_le 0x80000000 at && nat_le (at + 4 * length ws) 0x8000B000) c in
    let f = and_parts (nat_le 0x80000000 at) (nat_le (at + 4 * length ws) 0x8000B000) e.1 in
    let low = leb-true _ _ f.0 in
    let high = leb-true _ _ f.1 in
    stands_by kernel_words m at ws (λ k lt. code_lies m at k (get_or ws k 0) (eqb-true _ _ e.0) low (omega (arith, high)) (r k lt))

pub placed_by : (m : Memory) (at : ℕ) (T : Tree) → fits T ≡ true → reaches T at ≡ true → is_spaced (flat T []) ≡ true → is_code at (length (lowered T at)) ≡ true → ((k : ℕ) → k < length (lowered T at) → word m (at % 2 ^ 29 + 4 * k) ≡ get_or (lowered T at) k 0) → IsPlaced kernel_words m at T
placed_by m at T f g h c r = record { fitting = f; reaching = g; roomy = h; words = code_stands m at (lowered T at) c r }

-- two lists of pieces
pub stand_first : (w : ℕ → ℕ) (ps qs : List (ℕ × List ℕ)) → Stand w (ps ++ qs) → Stand w ps
stand_first w [] qs h = tt
stand_first w (p ∷ ps) qs h = (h.0, stand_first w ps qs h.1)

pub stand_second : (w : ℕ → ℕ) (ps qs : List (ℕ × List ℕ)) → Stand w (ps ++ qs) → Stand w qs
stand_second w [] qs h = h
stand_second w (p ∷ ps) qs h = stand_second w ps qs h.1
