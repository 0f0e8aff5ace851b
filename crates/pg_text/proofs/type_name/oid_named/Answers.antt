use Rattle.std.proofs.Common.{arith, codes}
use Rattle.pg_text.proofs.TypeNames.{read_word}
use Rattle.pg_text.proofs.type_name.oid_named.Goals as goal

pub returns-in-bpchar : goal.returns-in-bpchar
returns-in-bpchar c = read_word (codes "bpchar") c.args.name.now (omega arith) (omega arith, (omega arith, (omega arith, (omega arith, (omega arith, (omega arith, tt))))))

pub returns-in-95-2 : goal.returns-in-95-2
returns-in-95-2 c = read_word (codes "_bytea") c.args.name.now (omega arith) (omega arith, (omega arith, (omega arith, (omega arith, (omega arith, (omega arith, tt))))))

pub returns-in-unknown : goal.returns-in-unknown
returns-in-unknown c = read_word (codes "unknown") c.args.name.now (omega arith) (omega arith, (omega arith, (omega arith, (omega arith, (omega arith, (omega arith, (omega arith, tt)))))))

pub returns-in-varchar : goal.returns-in-varchar
returns-in-varchar c = read_word (codes "varchar") c.args.name.now (omega arith) (omega arith, (omega arith, (omega arith, (omega arith, (omega arith, (omega arith, (omega arith, tt)))))))

pub returns-in-95-6 : goal.returns-in-95-6
returns-in-95-6 c = read_word (codes "_varchar") c.args.name.now (omega arith) (omega arith, (omega arith, (omega arith, (omega arith, (omega arith, (omega arith, (omega arith, (omega arith, tt))))))))
