use Rattle.std.proofs.Common.{◌≡◌, ◌++◌, rules, append_assoc}
use Rattle.std.proofs.lemmas.Fmt.{contents_after_writes}
use Rattle.arrayvec.specs.ArrayString.{ArrayString}
use Rattle.cilk.proofs.within.name_within.Goals as goal

pub returns-in-Ok : goal.returns-in-Ok
returns-in-Ok c =
    let wrote =
    contents_after_writes (λ (s : ArrayString) bytes (t : ArrayString). t.bytes ≡ s.bytes ++ bytes) (λ (s : ArrayString). s.bytes) (λ s bytes t e. e)
    c.new-name.result _ c.write.new.self c.in-Ok.ensures.writes
    in
    search (rules, append_assoc)
