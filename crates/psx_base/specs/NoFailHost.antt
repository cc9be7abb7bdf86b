-- What a host that never fails was given.
use Rattle.std.specs.Prelude.{ℕ, List, Option}
use Rattle.psx_base.specs.declared.no_fail_host.NoFailHost.{NoFailHost}
use Rattle.psx_base.specs.Files.{bytes_under}

-- the bytes that were put under a name
abbrev pub kept : NoFailHost → List ℕ → Option (List ℕ)
kept h name = bytes_under h.files name
