-- What is asked of the archive, and the reply to what it answers.
use Rattle.std.specs.Prelude.{ℕ, Bool, true, false, List, codes, decimal, map, Option, Result, Ok, Err, Some, None}
use Rattle.std.specs.List.{flat_map}
use Rattle.queue.specs.Answers.{copy_line}
use Rattle.queue.specs.Fault.{fault_text}
use Rattle.queue.specs.Histories.{Call, Delivery, QueueRun, Copying, Lookup, WaitingList, Cleaning, Removing, Promoting, VerdictList, Reply, Stored, Lines, Count, Found, Copies}
use Rattle.history.specs.declared.fault.Fault.{Fault}
use Rattle.history.specs.declared.fault.Fault.TheVariants as fault
use Rattle.desk.specs.Answer.{refusal_message, text_message}
use Rattle.desk.specs.Reply.{Message, line}
use Rattle.desk.specs.Want.{Want, delivery, queue_run, copying, fetching, waiting_list, cleaning, verdict_list, removing, promoting, asking}
use Rattle.desk.specs.declared.content.Content.{Content}
use Rattle.desk.specs.declared.content.Content.TheVariants.{Text, Binary, Objects, Page, Figures}
use Rattle.telling.specs.Told.{Asking, explained, shown_of, configuration, waiting_objects, verdict_objects, figures, figure_lines, page_of}
use Rattle.telling.specs.declared.fault.TellFault.{TellFault}
use Rattle.telling.specs.declared.fault.TellFault.TheVariants as told
use Rattle.desk.specs.declared.head.Refusal.TheVariants as refusal

-- The call that is wanted, with the body that came, at the moment that is handed in. A promotion copies all that the suite shows.
abbrev pub call_wanted : Want → List ℕ → ℕ → Call
call_wanted (delivery name length) body moment = Delivery name body moment
call_wanted queue_run body moment = QueueRun moment
call_wanted (copying from to source) body moment = Copying from to source moment
call_wanted (fetching path is_pool) body moment = Lookup path
call_wanted waiting_list body moment = WaitingList moment
call_wanted cleaning body moment = Cleaning moment
call_wanted verdict_list body moment = VerdictList
call_wanted (removing suite name) body moment = Removing suite name moment
call_wanted (promoting from to) body moment = Promoting from to None moment
call_wanted (asking question) body moment = VerdictList

-- Whether a call is wanted. A question is no call, and a call that changes nothing stands for it.
abbrev pub is_call : Want → Bool
is_call (asking question) = false
is_call want = true

-- whether a file of the pool is wanted
abbrev pub is_pool_file : Want → Bool
is_pool_file (fetching path is_pool) = is_pool
is_pool_file want = false

-- what a file is: bytes, if it is of the pool, else an index text
abbrev pub file_content : Bool → Content
file_content true = Binary
file_content false = Text

-- the reply to what was done
abbrev pub done_message : Bool → Reply → Message
done_message is_pool (Stored true) = text_message 201 (line (codes "new"))
done_message is_pool (Stored false) = text_message 200 (line (codes "again"))
done_message is_pool (Lines lines) = text_message 200 (flat_map line lines)
done_message is_pool (Count items) = text_message 200 (line (decimal items))
done_message is_pool (Copies copies) = text_message 200 (flat_map line (map copy_line copies))
done_message is_pool (Found None) = refusal_message refusal.NotFound
done_message is_pool (Found (Some file)) = record { status = 200; allow = None; content = file_content is_pool; body = file }

-- the reply to a refusal of the archive: for want of memory or a fault of its keeper it says that this cannot be stored, for the size of
-- a body that it is too large, else it has the text of the fault
abbrev pub fault_message : Fault → Message
fault_message fault.OutOfMemory = refusal_message refusal.OutOfMemory
fault_message (fault.Keeper cause) = refusal_message refusal.OutOfMemory
fault_message fault.TooLarge = refusal_message refusal.PayloadTooLarge
fault_message cause = text_message 422 (line (fault_text cause))

-- the reply to an outcome
abbrev pub outcome_message : Want → Result Reply Fault → Message
outcome_message want (Ok reply) = done_message (is_pool_file want) reply
outcome_message want (Err cause) = fault_message cause

-- lines of text, or objects of JSON, one a line
abbrev pub lines_content : (is_json : Bool) → Content
lines_content true = Objects
lines_content false = Text

-- what the answer to a question is
abbrev pub content_of : Asking → Content
content_of (explained name is_json) = lines_content is_json
content_of (shown_of suite is_json) = lines_content is_json
content_of configuration = Text
content_of waiting_objects = Objects
content_of verdict_objects = Objects
content_of figures = Figures
content_of figure_lines = Text
content_of (page_of page key) = Page

-- the reply to a question
abbrev pub told_message : Asking → Result (Option (List ℕ)) TellFault → Message
told_message question (Ok (Some text)) = record { status = 200; allow = None; content = content_of question; body = text }
told_message question (Ok None) = refusal_message refusal.NotFound
told_message question (Err (told.Keeper cause)) = refusal_message refusal.OutOfMemory
told_message question (Err told.Moment) = fault_message fault.Moment
told_message question (Err told.UnknownSuite) = fault_message fault.UnknownSuite

-- The reply to a delivery that was refused. A body that ended early is a bad request, and if the reader failed there is no reply.
abbrev pub reception_message : Fault → Option Message
reception_message fault.ReaderFailed = None
reception_message fault.Ended = Some (refusal_message refusal.BadRequest)
reception_message cause = Some (fault_message cause)
