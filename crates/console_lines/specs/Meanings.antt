-- What the requests of the code ask for.
use Rattle.console_lines.specs.Requests.{
  Fresh,
  fresh_of,
  PolicyAsked,
  in_order,
  by_last,
  by_highest,
  by_list,
  Asked,
  plainly,
  fresh,
  script_text,
  policy,
  trace_file,
  audit,
  close,
  image_bytes,
  Said,
  passed_over,
  malformed,
  asks,
}
use Rattle.console_lines.specs.declared.request.Line.{Line}
use Rattle.console_lines.specs.declared.request.Line.TheVariants as line
use Rattle.console_lines.specs.declared.request.PolicyRequest.{PolicyRequest}
use Rattle.console_lines.specs.declared.request.PolicyRequest.TheVariants as policies
use Rattle.console_lines.specs.declared.request.Request.{Request}
use Rattle.console_lines.specs.declared.request.Request.TheVariants as request
use Rattle.console_lines.specs.declared.start.Start.{Start}

abbrev pub start_asks : Start → Fresh
start_asks s = fresh_of s.store s.bytes s.places s.entries s.records

abbrev pub policy_asks : PolicyRequest → PolicyAsked
policy_asks policies.Order = in_order
policy_asks (policies.Last w) = by_last w
policy_asks (policies.High w) = by_highest w
policy_asks (policies.List w wishes) = by_list w wishes.lines.items

abbrev pub request_asks : Request → Asked
request_asks (request.Plain p) = plainly p
request_asks (request.Start s) = fresh (start_asks s)
request_asks (request.Script v) = script_text v.items
request_asks (request.Policy p) = policy (policy_asks p)
request_asks (request.Load v) = trace_file v.items
request_asks (request.Audit at) = audit at
request_asks (request.Close w) = close w
request_asks (request.Fill v) = image_bytes v.items

abbrev pub line_says : Line → Said
line_says line.Nothing = passed_over
line_says line.Malformed = malformed
line_says (line.Asks r) = asks (request_asks r)
