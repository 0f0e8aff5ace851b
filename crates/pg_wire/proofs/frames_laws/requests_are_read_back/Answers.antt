use Rattle.pg_wire.proofs.ReadBack.{query_back, parse_back, bind_back, describe_back, close_back, execute_back}
use Rattle.pg_wire.proofs.frames_laws.requests_are_read_back.Goals as goal

pub returns : goal.returns
returns c = record {
  query = query_back;
  parse = parse_back;
  bind = bind_back;
  describe = describe_back;
  close = close_back;
  execute = execute_back;
}
