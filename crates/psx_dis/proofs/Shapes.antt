-- The operands of each shape as the assembler reads them.
use Rattle.std.proofs.Common.{◌≡◌, ℕ, ◌<◌, ◌^◌, ℤ, pos, List, [], ◌∷◌, Option, Some, refl, ap, ◌∙◌}
use Rattle.std.specs.Prelude.{option_map}
use Rattle.psx_ins.specs.declared.reg.Reg.{Reg}
use Rattle.psx_asm.specs.declared.shape.Shape.TheVariants.{Bare, One, Two, Three, Shift, Signed, Unsigned, Upper, Place, Coprocessor, Code, BranchOne, BranchTwo, Jump}
use Rattle.psx_asm.specs.Piece.{Piece, Name, Number, Mark}
use Rattle.psx_asm.specs.Operands.{Known, Plain, ◌>>=◌, with, register, number_below, signed_number, mark, base}
use Rattle.psx_asm.specs.Instructions.{bare, one, two, three, shift, signed as by_signed, unsigned, upper, place, coprocessor, code, branch_one, branch_two, jump}
use Rattle.psx_asm.specs.Statement.{Alone, Branches, Jumps, of_bare, of_branch_one, of_branch_two, of_code, of_coprocessor, of_jump, of_one, of_place, of_shift, of_signed, of_three, of_two, of_unsigned, of_upper, by_shape}
use Rattle.psx_dis.specs.Printed.{register_text}
use Rattle.psx_dis.proofs.SpelledLines.{signed}
use Rattle.psx_dis.proofs.Registers.{register_reads, below_reads, signed_reads}

-- the piece of a register
abbrev pub named : Reg → Piece
named r = Name (register_text r)

-- a register in parentheses
base_reads : (s : Reg) (ps : List Piece) → s.0 < 32 → base (Mark 40 ∷ named s ∷ Mark 41 ∷ ps) ≡ Some (s, ps)
base_reads s ps small = ap (λ (o : Option Reg). with o (Mark 41 ∷ ps) >>= λ r. mark 41 r.1 >>= λ closed. Some (r.0, closed)) (register_reads s small)

module _ {B : Type 0} where
  register_then : (a : Reg) (ps : List Piece) (f : Reg × List Piece → Option B) → a.0 < 32 → (register (named a ∷ ps) >>= f) ≡ f (a, ps)
  register_then a ps f small = ap (λ (o : Option Reg). with o ps >>= f) (register_reads a small)

  below_then : (limit n : ℕ) (known : Known) (ps : List Piece) (f : ℕ × List Piece → Option B) → n < limit → (number_below limit known (Number (pos n) ∷ ps) >>= f) ≡ f (n, ps)
  below_then limit n known ps f small = ap (λ (o : Option ℕ). with o ps >>= f) (below_reads limit n small)

  signed_then : (imm : ℕ) (known : Known) (ps : List Piece) (f : ℕ × List Piece → Option B) → imm < 2 ^ 16 → (signed_number known (Number (signed imm) ∷ ps) >>= f) ≡ f (imm, ps)
  signed_then imm known ps f small = ap (λ (o : Option ℕ). with o ps >>= f) (signed_reads imm small)

  base_then : (s : Reg) (ps : List Piece) (f : Reg × List Piece → Option B) → s.0 < 32 → (base (Mark 40 ∷ named s ∷ Mark 41 ∷ ps) >>= f) ≡ f (s, ps)
  base_then s ps f small = ap (λ (o : Option (Reg × List Piece)). o >>= f) (base_reads s ps small)

module _ (known : Known) (w : List ℕ) where
  pub one_reads : (a : Reg) → a.0 < 32 → by_shape known w (named a ∷ []) One ≡ option_map Alone (one w a)
  unfolding of_one
  one_reads a la = register_then a [] _ la

  pub two_reads : (a b : Reg) → a.0 < 32 → b.0 < 32 → by_shape known w (named a ∷ named b ∷ []) Two ≡ option_map Alone (two w a b)
  unfolding of_two
  two_reads a b la lb = register_then a (named b ∷ []) _ la ∙ register_then b [] _ lb

  pub three_reads : (a b c : Reg) → a.0 < 32 → b.0 < 32 → c.0 < 32 → by_shape known w (named a ∷ named b ∷ named c ∷ []) Three ≡ option_map Alone (three w a b c)
  unfolding of_three
  three_reads a b c la lb lc = register_then a (named b ∷ named c ∷ []) _ la ∙ register_then b (named c ∷ []) _ lb ∙ register_then c [] _ lc

  pub shift_reads : (a b : Reg) (n : ℕ) → a.0 < 32 → b.0 < 32 → n < 32 → by_shape known w (named a ∷ named b ∷ Number (pos n) ∷ []) Shift ≡ option_map Alone (shift w a b n)
  unfolding of_shift
  shift_reads a b n la lb ln = register_then a (named b ∷ Number (pos n) ∷ []) _ la ∙ register_then b (Number (pos n) ∷ []) _ lb ∙ below_then 32 n known [] _ ln

  pub signed_reads_as : (a b : Reg) (imm : ℕ) → a.0 < 32 → b.0 < 32 → imm < 2 ^ 16
      → by_shape known w (named a ∷ named b ∷ Number (signed imm) ∷ []) Signed ≡ option_map Alone (by_signed w a b imm)
  unfolding of_signed
  signed_reads_as a b imm la lb li = register_then a (named b ∷ Number (signed imm) ∷ []) _ la ∙ register_then b (Number (signed imm) ∷ []) _ lb ∙ signed_then imm known [] _ li

  pub unsigned_reads : (a b : Reg) (imm : ℕ) → a.0 < 32 → b.0 < 32 → imm < 2 ^ 16
      → by_shape known w (named a ∷ named b ∷ Number (pos imm) ∷ []) Unsigned ≡ option_map Alone (unsigned w a b imm)
  unfolding of_unsigned
  unsigned_reads a b imm la lb li = register_then a (named b ∷ Number (pos imm) ∷ []) _ la ∙ register_then b (Number (pos imm) ∷ []) _ lb ∙ below_then (2 ^ 16) imm known [] _ li

  pub upper_reads : (a : Reg) (imm : ℕ) → a.0 < 32 → imm < 2 ^ 16 → by_shape known w (named a ∷ Number (pos imm) ∷ []) Upper ≡ option_map Alone (upper w a imm)
  unfolding of_upper
  upper_reads a imm la li = register_then a (Number (pos imm) ∷ []) _ la ∙ below_then (2 ^ 16) imm known [] _ li

  pub place_reads : (a : Reg) (imm : ℕ) (s : Reg) → a.0 < 32 → imm < 2 ^ 16 → s.0 < 32
      → by_shape known w (named a ∷ Number (signed imm) ∷ Mark 40 ∷ named s ∷ Mark 41 ∷ []) Place ≡ option_map Alone (place w a imm s)
  unfolding of_place
  place_reads a imm s la li ls =
      register_then a (Number (signed imm) ∷ Mark 40 ∷ named s ∷ Mark 41 ∷ []) _ la ∙ signed_then imm known (Mark 40 ∷ named s ∷ Mark 41 ∷ []) _ li ∙ base_then s [] _ ls

  pub coprocessor_reads : (a d : Reg) → a.0 < 32 → d.0 < 32 → by_shape known w (named a ∷ Number (pos d.0) ∷ []) Coprocessor ≡ option_map Alone (coprocessor w a d)
  unfolding of_coprocessor
  coprocessor_reads a d la ld = register_then a (Number (pos d.0) ∷ []) _ la ∙ below_then 32 d.0 known [] _ ld

  pub code_reads : (n : ℕ) → n < 2 ^ 20 → by_shape known w (Number (pos n) ∷ []) Code ≡ option_map Alone (code w n)
  unfolding of_code
  code_reads n ln = below_then (2 ^ 20) n known [] _ ln

  pub branch_one_reads : (a : Reg) (target : ℤ) → a.0 < 32 → by_shape known w (named a ∷ Number target ∷ []) BranchOne ≡ option_map (λ ins. Branches ins (Plain target)) (branch_one w a)
  unfolding of_branch_one
  branch_one_reads a target la = register_then a (Number target ∷ []) _ la

  pub branch_two_reads : (a b : Reg) (target : ℤ) → a.0 < 32 → b.0 < 32
      → by_shape known w (named a ∷ named b ∷ Number target ∷ []) BranchTwo ≡ option_map (λ ins. Branches ins (Plain target)) (branch_two w a b)
  unfolding of_branch_two
  branch_two_reads a b target la lb = register_then a (named b ∷ Number target ∷ []) _ la ∙ register_then b (Number target ∷ []) _ lb

  pub jump_reads : (target : ℤ) → by_shape known w (Number target ∷ []) Jump ≡ option_map (λ ins. Jumps ins (Plain target)) (jump w)
  unfolding of_jump
  jump_reads target = refl

  pub bare_reads : by_shape known w [] Bare ≡ option_map Alone (bare w)
  unfolding of_bare
  bare_reads = refl
