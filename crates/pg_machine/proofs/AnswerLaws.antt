-- What reading a text answers, by what its lines say.
use Rattle.std.proofs.Common.{◌≡◌, Result, Ok, Err, refl, sym, subst}
use Rattle.pg_machine.specs.declared.draft.MachineFile.{MachineFile}
use Rattle.pg_machine.specs.declared.fault.FileFault.{FileFault}
use Rattle.pg_machine.specs.declared.fault.FileFault.TheVariants as file
use Rattle.pg_machine.specs.MachineTexts.{Said, Answers, Becomes}
use Rattle.pg_machine.specs.Readings.{Says}

-- all lines were read
pub answered : (read : Result Said FileFault) (s : Said) (result : Result MachineFile FileFault) → read ≡ Ok s → Becomes s result → Answers read result
answered read s result e h = subst (λ (r : Result Said FileFault). Answers r result) (sym e) h

-- a line is refused, or memory lacked
pub refused : (read : Result Said FileFault) (fault : FileFault) → Says read (Err fault) → Answers read (Err fault)
refused (Ok s) file.OutOfMemory h = tt
refused (Err e) file.OutOfMemory h = tt
refused read (file.Line n why) h = subst (λ (r : Result Said FileFault). Answers r (Err (file.Line n why))) (sym h) refl
refused read file.NoStartup h = subst (λ (r : Result Said FileFault). Answers r (Err file.NoStartup)) (sym h) refl
refused read file.NoRefusal h = subst (λ (r : Result Said FileFault). Answers r (Err file.NoRefusal)) (sym h) refl
