use Rattle.abs_kernel.proofs.Accesses.{tests_pass, tests_stop, words_within, words_stay, texts_end}
use Rattle.abs_kernel.proofs.laws.user_accesses.Goals as goal

pub returns : goal.returns
returns c = record { pass = tests_pass; stop = tests_stop; within = words_within; again = words_stay; texts = texts_end }
