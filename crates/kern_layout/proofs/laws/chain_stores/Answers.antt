use Rattle.kern_layout.proofs.Written.{reads_chain}
use Rattle.kern_layout.proofs.Stored.{chain_linked, chain_unlinked}
use Rattle.kern_layout.proofs.laws.chain_stores.Goals as goal

pub returns : goal.returns
returns c = record {
  written = λ s w x b c p es lt out new line v h. reads_chain s v w x b c line p es lt out new h;
  linked = λ s w b c p e lt few line v h. chain_linked s v w b c line p e lt few h;
  unlinked = λ s w b c p e es lt is line v h. chain_unlinked s v w b c line p e es lt is h;
}
