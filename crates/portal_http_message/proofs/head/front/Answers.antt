use Rattle.portal_http_message.proofs.Common.{sym, arith, take_all, length-take-le, head_limit}
use Rattle.portal_http_message.proofs.head.front.Goals as goal

pub slice_bounds-result-end : goal.slice_bounds-result-end
slice_bounds-result-end c = sym (length-take-le head_limit c.args.bytes.now (omega arith))

pub returns-then-bytes-le-HEAD_LIMIT : goal.returns-then-bytes-le-HEAD_LIMIT
returns-then-bytes-le-HEAD_LIMIT c = sym (take_all head_limit c.args.bytes.now (omega arith))
