use Rattle.std.proofs.Common.{refl}
use Rattle.desk.proofs.laws.texts_leave_the_head.Goals as goal

pub returns : goal.returns
returns c one other status content length allow = rw (status, content, length, allow) refl
