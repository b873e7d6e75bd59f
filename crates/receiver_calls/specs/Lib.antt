pub mod ReceiverCalls
