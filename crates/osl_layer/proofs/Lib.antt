mod GlobalValues
