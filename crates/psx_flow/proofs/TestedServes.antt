-- Each listing of `tested` does what is written of it.
use Rattle.psx_flow.proofs.Kit.{ℕ, [], refl, sym, ◌∙◌, subst, arith, Run, Meets, calls, kernel_words, Part, counted, run, fair}
use Rattle.std.proofs.lemmas.Bool.{false≢true}
use Rattle.psx_flow.specs.declared.kinds.Tested.{Tested}
use Rattle.psx_flow.specs.declared.kinds.Tested.TheVariants.{ReadByte, WriteByte, ReadWord, WriteWord}
use Rattle.psx_flow.specs.Tested.{Tries, ServesTested}
use Rattle.psx_flow.proofs.TestedTrees.{tree}
use Rattle.psx_flow.proofs.Rules.{meets_mono}
use Rattle.psx_flow.proofs.Sound.{anew}
use Rattle.psx_flow.proofs.Accesses.{Back, reads_byte, writes_byte, reads_word, writes_word}

-- what is asked behind a listing, at the parts of a state
abbrev Behind : Tested → Run → Part
Behind kind s c z m w q p = Tries kind s s.regs.r31 (run c z m w q p)

arrives : (kind : Tested) (at : ℕ) (s : Run) → Meets kernel_words (calls kernel_words []) (tree kind) at (λ _. ⊥) (Back (Behind kind s) s.regs.r31) s → Meets kernel_words (calls kernel_words []) (tree kind) at (λ _. ⊥) (λ to e. Tries kind s to e) s
arrives kind at s h =
    meets_mono kernel_words (calls kernel_words []) (fair kernel_words []) (tree kind) at _ _ _ _ s (λ m x. x)
    (λ to e b. subst (λ n. Tries kind s n e) (sym b.0) (anew (Behind kind s) (Tries kind s s.regs.r31) (λ c z m w q p ok h. h) e b.1)) h

pub serves : (kind : Tested) → ServesTested kind (tree kind)
serves ReadByte at s small =
    arrives ReadByte at s (reads_byte (calls kernel_words []) (fair kernel_words []) (Behind ReadByte s) at s.regs s.cop0 s.bytes [] s.seen (counted s) small tt record {
      good = λ u x y. record { back = refl; made = λ _. record { regs = refl; bytes = refl; seen = refl }; refused = λ f. absurd (false≢true (sym f ∙ u)); cop0 = refl; within = omega arith; steps = omega arith };
      bad = λ u x y. record { back = refl; made = λ g. absurd (false≢true (sym u ∙ g)); refused = λ _. record { regs = refl; bytes = refl; seen = refl }; cop0 = refl; within = omega arith; steps = omega arith };
    })
serves WriteByte at s small =
    arrives WriteByte at s (writes_byte (calls kernel_words []) (fair kernel_words []) (Behind WriteByte s) at s.regs s.cop0 s.bytes [] s.seen (counted s) small tt record {
      good = λ u x y. record { back = refl; made = λ _. record { regs = refl; bytes = refl; seen = refl }; refused = λ f. absurd (false≢true (sym f ∙ u)); cop0 = refl; within = omega arith; steps = omega arith };
      bad = λ u x y. record { back = refl; made = λ g. absurd (false≢true (sym u ∙ g)); refused = λ _. record { regs = refl; bytes = refl; seen = refl }; cop0 = refl; within = omega arith; steps = omega arith };
    })
serves ReadWord at s small =
    arrives ReadWord at s (reads_word (calls kernel_words []) (fair kernel_words []) (Behind ReadWord s) at s.regs s.cop0 s.bytes [] s.seen (counted s) small tt record {
      good = λ u x y. record { back = refl; made = λ _. record { regs = refl; bytes = refl; seen = refl }; refused = λ f. absurd (false≢true (sym f ∙ u)); cop0 = refl; within = omega arith; steps = omega arith };
      bad = λ u x y. record { back = refl; made = λ g. absurd (false≢true (sym u ∙ g)); refused = λ _. record { regs = refl; bytes = refl; seen = refl }; cop0 = refl; within = omega arith; steps = omega arith };
    })
serves WriteWord at s small =
    arrives WriteWord at s (writes_word (calls kernel_words []) (fair kernel_words []) (Behind WriteWord s) at s.regs s.cop0 s.bytes [] s.seen (counted s) small tt record {
      good = λ u x y. record { back = refl; made = λ _. record { regs = refl; bytes = refl; seen = refl }; refused = λ f. absurd (false≢true (sym f ∙ u)); cop0 = refl; within = omega arith; steps = omega arith };
      bad = λ u x y. record { back = refl; made = λ g. absurd (false≢true (sym u ∙ g)); refused = λ _. record { regs = refl; bytes = refl; seen = refl }; cop0 = refl; within = omega arith; steps = omega arith };
    })
