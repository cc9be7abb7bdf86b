-- The report of an assembly text's fault is its two parts and a line feed.
use Rattle.std.proofs.Common.{◌≡◌, ℕ, List, ◌++◌, codes, decimal, refl, sym, ap, ◌∙◌, append-nil, append_assoc}
use Rattle.psx_asm.specs.declared.fault.AsmFault.{AsmFault}
use Rattle.psx_asm.specs.declared.fault.AsmFault.TheVariants.{BadToken, UnknownWord, BadOperand, Twice, NoLabel, Range, Overlap}
use Rattle.psx_asm.specs.declared.fault.AsmError.{AsmError}
use Rattle.psx_asm.specs.declared.fault.AsmError.TheVariants.{TooLong, Line, Memory}
use Rattle.psxk_run.specs.Reports.{asm_fault_text, asm_error_text, text_line}
use Rattle.psxk_run.specs.TextParts.{fault_head, fault_label, error_head, error_label}

fault-parts : (f : AsmFault) → asm_fault_text f ≡ fault_head f ++ fault_label f
unfolding asm_fault_text
fault-parts BadToken = sym (append-nil _)
fault-parts UnknownWord = sym (append-nil _)
fault-parts BadOperand = sym (append-nil _)
fault-parts (Twice label) = refl
fault-parts (NoLabel label) = refl
fault-parts (Range value) = sym (append-nil _)
fault-parts Overlap = sym (append-nil _)

error-parts : (e : AsmError) → asm_error_text e ≡ error_head e ++ error_label e
unfolding asm_error_text
error-parts (TooLong limit) = sym (append-nil _)
error-parts (Line line fault) =
    ap (λ t. codes "line " ++ (decimal line ++ (codes ": " ++ t))) (fault-parts fault)
    ∙ regroup (codes "line ") (decimal line) (codes ": ") (fault_head fault) (fault_label fault)
  where
    regroup : (a b c d e : List ℕ) → a ++ (b ++ (c ++ (d ++ e))) ≡ (a ++ (b ++ (c ++ d))) ++ e
    regroup a b c d e = simp append_assoc
error-parts Memory = sym (append-nil _)

line-parts : (e : AsmError) → text_line e ≡ (codes "psxk: text: " ++ error_head e) ++ (error_label e ++ codes "\n")
line-parts e =
    ap (λ t. codes "psxk: text: " ++ (t ++ codes "\n")) (error-parts e) ∙ regroup (codes "psxk: text: ") (error_head e) (error_label e) (codes "\n")
  where
    regroup : (a b c d : List ℕ) → a ++ ((b ++ c) ++ d) ≡ (a ++ b) ++ (c ++ d)
    regroup a b c d = simp append_assoc

pub line-of_parts : (e : AsmError) (head label : List ℕ) → head ≡ codes "psxk: text: " ++ error_head e → label ≡ error_label e → head ++ (label ++ codes "\n") ≡ text_line e
line-of_parts e head label p q = (λ i. p i ++ (q i ++ codes "\n")) ∙ sym (line-parts e)
